pub mod Opening
pub mod Taking
