pub mod Taking
pub mod Linking
pub mod Paging
