pub mod CutRests
pub mod InfoText
pub mod Reading
pub mod Telling
pub mod ReportText
