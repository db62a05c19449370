pub mod Backward
pub mod Run
pub mod Parts
pub mod Files
pub mod Merging
pub mod inner
