pub mod Number
pub mod Device
pub mod Formats
pub mod Items
pub mod Printing
pub mod Rules
pub mod Tracked
pub mod inner
