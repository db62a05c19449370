pub mod Laws
pub mod Rounds
