pub mod Stores
pub mod Named
pub mod Naming
pub mod Parts
