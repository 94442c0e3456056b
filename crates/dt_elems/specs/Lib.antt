pub mod Apart
pub mod Laws
pub mod Place
pub mod Taking
pub use Rattle.dt_map.specs.Counts
pub use Rattle.dt_map.specs.Elements
pub use Rattle.dt_map.specs.Packed
pub use Rattle.dt_type.specs.Datatype
