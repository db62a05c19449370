pub mod Datagrams
pub mod Forms
pub mod Interfaces
pub mod LeftCounts
pub mod RunPackets
pub mod Times
