pub mod Rings
pub mod Lists
pub mod Neighbours
pub mod Grids
pub mod Members
