pub mod Times
pub mod Pushed
pub mod Pieces
pub mod Parts
pub mod Joins
pub mod PushedTexts
pub mod PushedLines
