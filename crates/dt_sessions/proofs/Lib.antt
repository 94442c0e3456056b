pub mod Beside
pub mod Changing
pub mod OpenLemmas
