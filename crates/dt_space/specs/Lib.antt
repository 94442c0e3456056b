pub mod Fault
pub mod Live
pub mod New
pub mod Packing
pub mod Sessions
pub mod Sizes
pub mod Space
pub mod Structures
