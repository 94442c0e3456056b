pub mod Alike
pub mod Bytes
pub mod Elements
pub mod Given
pub mod Named
pub mod Opened
pub mod Pieces
pub mod Places
