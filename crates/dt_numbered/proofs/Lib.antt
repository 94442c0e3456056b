pub mod Between
pub mod Reductions
pub mod Standing
pub mod Telling
