pub mod Fields
pub mod Header
pub mod Read
pub mod Reasons
pub mod Transport
pub mod Checksum
pub mod Written
pub mod inner
