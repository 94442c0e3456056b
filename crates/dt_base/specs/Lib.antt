pub mod Adapters
pub mod Counter
pub mod MemSink
pub mod MemSource
pub mod Transfer
