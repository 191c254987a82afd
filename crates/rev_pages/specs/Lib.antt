pub mod Tables
pub mod State
pub mod Opened
pub mod Lays
