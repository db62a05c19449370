pub mod Calls
pub mod Parsing
pub mod Reach
pub mod Reader
pub mod SourceState
pub mod Window
