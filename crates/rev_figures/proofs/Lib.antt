pub mod Asking
pub mod Counts
pub mod Nodes
pub mod Climbing
pub mod Returning
pub mod Tallies
pub mod Adding
