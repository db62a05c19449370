pub mod Jobs
pub mod Command
pub mod CommandLine
pub mod Shown
