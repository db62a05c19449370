pub mod Shapes
mod Putting
pub mod OnesSum
pub mod ChecksumLaw
