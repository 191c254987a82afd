pub mod Steps
pub mod Rows
pub mod Fault
pub mod Recordings
