pub mod Digesting
pub mod Lowest
