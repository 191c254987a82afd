pub mod Safe
pub mod Marks
