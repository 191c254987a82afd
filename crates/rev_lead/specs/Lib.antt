pub mod Acts
pub mod Agreed
pub mod Agrees
pub mod Counts
pub mod Deeds
pub mod Pages
