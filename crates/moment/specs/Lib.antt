pub mod Moments
pub mod Seen
pub mod inner
