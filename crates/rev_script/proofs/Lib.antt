pub mod Numbers
pub mod Places
mod Extending
pub mod Known
pub mod Front
pub mod Text
pub mod Pieces
pub mod Data
pub mod Cuts
pub mod Next
pub mod Scripts
pub mod Each
pub mod Split
pub mod Usual
