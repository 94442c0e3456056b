pub mod Bytes
pub mod Displacement
pub mod Image
pub mod Kind
pub mod Laws
pub mod Name
