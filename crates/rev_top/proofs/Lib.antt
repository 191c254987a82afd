pub mod Named
pub mod MoreRows
pub mod Spaces
pub mod Summed
