pub mod Laws
pub mod OptionGrammar
pub mod Options
pub mod Parsing
pub mod Reader
