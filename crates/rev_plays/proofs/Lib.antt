pub mod Plays
pub mod Starting
pub mod Tracing
