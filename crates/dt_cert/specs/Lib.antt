pub mod Certificate
pub mod Classes
pub mod Laws
pub mod Shown
pub mod Text
pub mod Written
pub mod Judged
pub mod Read
