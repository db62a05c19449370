pub mod Grammar
pub mod OptionList
pub mod Split
pub mod inner
