pub mod Blocks
pub mod Extents
pub mod First
pub mod Laws
pub mod Likeness
pub mod Reach
pub mod Step
