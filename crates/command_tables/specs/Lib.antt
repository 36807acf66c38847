pub mod Jams
pub mod inner
