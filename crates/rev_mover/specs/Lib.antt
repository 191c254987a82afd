pub mod Moving
pub mod Clearing
pub mod Parting
