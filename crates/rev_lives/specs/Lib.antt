pub mod Follow
pub mod Told
pub mod Leaving
pub mod Hashes
