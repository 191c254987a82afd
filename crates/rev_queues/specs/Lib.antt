pub mod Entries
pub mod Positions
pub mod QueueState
pub mod Empty
