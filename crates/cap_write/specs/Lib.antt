pub mod Joined
pub mod LeftOut
pub mod Numbering
pub mod Pcap
pub mod PcapRun
pub mod Texts
pub mod Units
pub mod inner
