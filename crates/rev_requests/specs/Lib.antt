pub mod Limits
pub mod Plain
