pub mod MemberLaws
pub mod Sums
pub mod Steps
pub mod Kept
pub mod Readings
pub mod Moves
pub mod Exchanges
pub mod Entries
