pub mod Taken
pub mod Classes
pub mod Counting
pub mod Ipv6
pub mod Runs
pub mod inner
