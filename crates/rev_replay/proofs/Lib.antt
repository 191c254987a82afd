pub mod Going
pub mod Noting
mod Limited
mod Places
