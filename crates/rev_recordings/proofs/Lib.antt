pub mod Reading
pub mod Logs
mod Scripts
mod Ends
