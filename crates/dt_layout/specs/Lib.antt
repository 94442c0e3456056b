pub mod Body
pub mod Code
pub mod Laws
pub mod Merging
pub mod Program
pub mod Written
