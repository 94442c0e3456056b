pub mod Words
pub mod Result
pub mod Progress
