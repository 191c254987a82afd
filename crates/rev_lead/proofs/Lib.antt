pub mod Carrying
pub mod Deleting
pub mod Driving
pub mod Gone
pub mod Later
pub mod Leading
pub mod Playing
pub mod Walking
