pub mod PrintedForm
pub mod WholeUnits
pub mod StampForms
pub mod Chosen
pub mod Codes
pub mod Powers
