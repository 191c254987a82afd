pub mod Exchange
pub mod Plain
