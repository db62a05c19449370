pub mod TagSteps
pub mod TagsLaw
pub mod OtherNetworks
pub mod Ipv6Frames
