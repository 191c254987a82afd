pub mod Writing
pub mod Wholes
mod Topics
