pub mod Canonical
pub mod DigestText
pub mod inner
