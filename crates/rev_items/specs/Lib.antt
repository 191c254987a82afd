pub mod Keys
pub mod Plain
pub mod Rules
pub mod Hash
pub mod Bytes
