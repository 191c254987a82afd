pub mod Lacks
pub mod Unnamed
pub mod Aside
pub mod Gathered
