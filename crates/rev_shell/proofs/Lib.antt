pub mod Runs
mod Refusals
