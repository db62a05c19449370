pub mod CheckedFiles
pub mod Escaping
pub mod Paths
mod LeftOutTexts
mod NetworkTexts
mod ListedNames
pub mod LineParts
mod LinesRead
mod Judging
mod Running
mod FoundRefusals
