pub mod Passing
pub mod Taken
pub mod Stopping
pub mod Files
pub mod Order
pub mod RowsTaken
pub mod Splitting
