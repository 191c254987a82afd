pub mod JsonLines
pub mod Told
