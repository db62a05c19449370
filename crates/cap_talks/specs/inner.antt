pub mod table
pub mod talks
