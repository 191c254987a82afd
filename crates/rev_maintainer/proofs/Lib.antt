mod Arms
pub mod Ages
pub mod Bumps
pub mod Causes
pub mod Pulling
pub mod Rooming
