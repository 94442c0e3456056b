pub mod Comparing
pub mod Composing
pub mod Joins
pub mod Listed
pub mod Showing
