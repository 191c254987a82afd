pub mod Events
pub mod Grown
pub mod Parts
pub mod Rules
