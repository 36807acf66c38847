pub mod Replaying
pub mod inner
