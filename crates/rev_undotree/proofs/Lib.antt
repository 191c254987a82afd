pub mod Prunes
pub mod Mentioned
pub mod Lineage
pub mod Recalled
