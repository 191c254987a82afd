pub mod Feeding
pub mod Importing
pub mod Sampled
