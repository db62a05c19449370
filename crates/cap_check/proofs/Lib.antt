pub mod Following
pub mod Parts
pub mod Reaching
pub mod Taking
pub mod Times
