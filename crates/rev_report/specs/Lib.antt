pub mod Cells
pub mod Evidence
pub mod Prefixes
