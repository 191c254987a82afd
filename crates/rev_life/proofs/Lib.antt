pub mod Classes
pub mod Lasts
