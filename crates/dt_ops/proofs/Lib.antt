pub mod Bits
pub mod Choosing
pub mod Folding
pub mod Lawful
pub mod Range
