pub mod Trying
pub mod Reading
pub mod Evictions
pub mod Feeding
pub mod Own
