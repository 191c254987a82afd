pub mod Made
pub mod Chains
pub mod Index
