pub mod Verdicts
pub mod Words
pub mod Heard
pub mod Blame
pub mod Departed
pub mod Parts
pub mod Sampling
pub mod Notes
