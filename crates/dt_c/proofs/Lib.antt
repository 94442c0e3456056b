pub mod AsBox
pub mod Calling
