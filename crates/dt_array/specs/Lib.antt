pub mod Array
pub mod Indices
pub mod Laws
pub mod Nest
pub mod Nested
