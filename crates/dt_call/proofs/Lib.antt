pub mod NumberLemmas
pub mod WordLemmas
pub mod RunLemmas
pub mod CallLemmas
