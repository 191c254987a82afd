pub mod Story
pub mod Readings
pub mod Departures
pub mod Told
pub mod Clocks
