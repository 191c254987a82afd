pub mod Sink
pub mod Pending
pub mod Outbox
