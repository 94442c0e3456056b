pub mod Lines
pub mod Loops
