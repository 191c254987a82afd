pub mod Events
pub mod Order
pub mod Seconds
pub mod Foresight
pub mod Spans
pub mod Waiting
