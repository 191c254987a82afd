pub mod Settings
pub mod Trials
pub mod Room
