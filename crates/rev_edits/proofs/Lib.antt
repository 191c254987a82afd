mod Dropping
pub mod Linking
pub mod Paging
pub mod Rest
pub mod Seats
pub mod Taking
pub mod Telling
