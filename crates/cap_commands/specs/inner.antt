pub mod BlockWalk
pub mod DiffWalk
pub mod DiffWords
pub mod FileText
pub mod PacketParts
