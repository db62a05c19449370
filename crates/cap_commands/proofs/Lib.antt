pub mod Divergence
pub mod DiffWords
pub mod FirstDifference
mod Merging
mod Leaving
pub mod BlockListing
pub mod BlockWalking
pub mod Listing
pub mod Telling
pub mod Pieces
pub mod CheckedFiles
pub mod RefusedFiles
