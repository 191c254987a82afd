pub mod MoveLaws
pub mod Nodes
pub mod Climbs
pub mod Searches
pub mod Departing
pub mod Timing
