pub mod Facts
pub mod Figures
pub mod Tables
pub mod Rows
pub mod Texts
pub mod Lines
