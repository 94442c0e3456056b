pub mod Script
pub mod Certified
pub mod Checked
pub mod Moved
pub mod Generated
