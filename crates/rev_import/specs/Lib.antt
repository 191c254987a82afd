pub mod Becoming
pub mod Figures
pub mod Requests
pub mod Sample
pub mod Setup
pub mod Writing
