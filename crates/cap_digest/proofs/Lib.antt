pub mod Digesting
pub mod Divisors
pub mod Heads
pub mod Injective
pub mod Times
