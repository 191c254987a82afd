pub mod Fitted
pub mod Reading
pub mod Empty
mod Changes
pub mod Record
pub mod Seen
pub mod Leads
pub mod Telling
pub mod Lending
mod Shelves
