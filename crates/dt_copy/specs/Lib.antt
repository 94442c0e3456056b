pub mod Copied
pub mod Laws
pub mod Matching
pub mod Plan
pub mod Side
