pub mod Answer
pub mod Built
pub mod Laws
