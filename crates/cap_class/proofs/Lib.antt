pub mod Recount
pub mod Steps
pub mod Moves
pub mod Ipv6Packets
pub mod Seen
