pub mod Row
pub mod Trace
