pub mod Fault
pub mod Laws
pub mod Parsed
pub mod Reading
pub mod Spelling
