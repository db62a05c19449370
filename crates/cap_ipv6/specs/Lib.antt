pub mod Fields
pub mod Chain
pub mod Read
pub mod Seen
pub mod inner
