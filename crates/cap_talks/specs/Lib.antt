pub mod counts
pub mod table
pub mod talks
pub mod inner
