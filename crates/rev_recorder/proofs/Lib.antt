pub mod Calls
pub mod Compare
pub mod Counts
pub mod Left
pub mod Legal
pub mod Outcomes
pub mod Runs
pub mod Sends
