pub mod Sample
pub mod Loss
