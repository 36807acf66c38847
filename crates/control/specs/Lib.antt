pub mod Acts
pub mod HomeEvents
pub mod HomeEffect
pub mod inner
pub mod LineEvents
pub mod LineEffect
pub mod Sharing
pub mod Homes
