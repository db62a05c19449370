pub mod Finding
pub mod Laws
pub mod Parsing
pub mod Reader
