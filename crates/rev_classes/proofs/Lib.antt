pub mod Filling
pub mod Laws
