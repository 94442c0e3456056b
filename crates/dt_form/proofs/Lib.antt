pub mod Counts
pub mod Decodings
