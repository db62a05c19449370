pub mod Seen
pub mod Tags
pub mod Links
pub mod Ipv6
pub mod inner
