pub mod Rooming
pub mod Bumping
