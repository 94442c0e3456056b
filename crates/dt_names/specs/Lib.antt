pub mod Found
pub mod Missing
pub mod Names
pub mod Standing
