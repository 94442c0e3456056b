pub mod Runs
pub mod Progressing
