pub mod Bracketing
pub mod Joins
pub mod Laws
pub mod Stored
pub mod Word
