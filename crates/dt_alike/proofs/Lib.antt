pub mod Filling
pub mod Growing
pub mod Knowing
pub mod Reaching
pub mod Searching
pub mod Segments
pub mod Stepping
