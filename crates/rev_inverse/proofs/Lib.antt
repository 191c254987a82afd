pub mod Fits
pub mod Paging
pub mod Marking
pub mod Shifting
pub mod Opened
pub mod Empty
pub mod Lists
pub mod TurningRecord
