pub mod StandingLemmas
pub mod WordLemmas
