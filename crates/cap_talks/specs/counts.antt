pub mod Counting
pub mod FileLines
