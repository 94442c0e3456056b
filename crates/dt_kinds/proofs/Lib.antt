pub mod Bytes
pub mod Displacements
pub mod Table
