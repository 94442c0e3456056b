pub mod Places
pub mod Blocks
pub mod OneCopy
pub mod Products
pub mod RowPlaces
