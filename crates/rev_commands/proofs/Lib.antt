mod Hitting
mod Leaving
mod Holding
mod Settling
mod Sizes
mod Standing
mod Digits
mod Plans
mod Needs
pub mod Finding
pub mod Flushing
pub mod Living
pub mod Looking
pub mod Placing
pub mod Rewriting
