pub mod FirstSome
