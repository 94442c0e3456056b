pub mod Arguments
pub mod Contents
pub mod Decoding
pub mod Form
pub mod Laws
