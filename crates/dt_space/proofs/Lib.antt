pub mod Numbers
pub mod Packings
pub mod Parts
