pub mod Code
pub mod Resolution
pub mod ResolutionLaws
pub mod Stamp
pub mod Time
pub mod Unit
pub mod Clock
pub mod inner
