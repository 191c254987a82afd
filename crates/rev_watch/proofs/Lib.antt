pub mod WordLemmas
mod Behind
pub mod Ordered
pub mod ReaderLemmas
pub mod ReadLemmas
pub mod Order
mod HeldLemmas
pub mod Written
mod SpaceLemmas
mod KeyLemmas
pub mod NumberLemmas
pub mod UsualLemmas
pub mod EventLemmas
mod LineLemmas
pub mod Spelling
