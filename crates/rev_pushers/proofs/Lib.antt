pub mod Seconds
pub mod Keyed
