pub mod Going
pub mod Keeping
pub mod Parting
pub mod Taking
