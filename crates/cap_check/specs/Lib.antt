pub mod Checking
pub mod CheckText
pub mod inner
