pub mod ChainSteps
pub mod ChainLaw
