mod Completed
pub mod Feeding
pub mod Forming
mod Joining
mod CountingOut
pub mod LeavingOut
mod CarriedPackets
mod Lengths
mod Numbers
pub mod Peeking
pub mod Places
pub mod Records
pub mod Starting
pub mod Units
mod Writing
pub mod Written
