pub mod Replies
pub mod Quiet
pub mod Traces
pub mod Start
pub mod Kept
pub mod Begin
