pub mod Slots
pub mod Carrying
pub mod Walking
pub mod Handing
pub mod Starting
pub mod Rescuing
pub mod Steps
