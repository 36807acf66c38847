pub mod Parting
pub mod Few
pub mod LineActing
pub mod Completing
pub mod HomeActing
pub mod HomeSettling
pub mod Taking
pub mod Followed
