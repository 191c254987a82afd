pub mod Ends
pub mod Opened
pub mod Progress
pub mod Stop
pub mod Telling
