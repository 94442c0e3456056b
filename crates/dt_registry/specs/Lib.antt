pub mod Laws
pub mod Registry
pub use Rattle.dt_type.specs.Basic
pub use Rattle.dt_type.specs.Datatype
