pub mod Laws
pub mod Near
pub mod Offsets
pub mod Reach
pub mod Span
