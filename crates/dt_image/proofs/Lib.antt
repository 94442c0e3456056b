pub mod Fitting
pub mod Turned
