pub mod Grammar
pub mod Split
pub mod inner
