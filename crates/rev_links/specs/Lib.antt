pub mod Rings
pub mod Neighbours
pub mod Grids
pub mod Lending
