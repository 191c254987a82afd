pub mod Words
pub mod Alive
pub mod Class
pub mod Lives
pub mod Leaving
pub mod Filter
pub mod Texts
pub mod Lines
