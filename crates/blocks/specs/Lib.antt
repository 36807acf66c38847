pub mod Asking
pub mod View
pub mod Marking
pub mod Looks
pub mod Passing
pub mod Tests
pub mod Steps
pub mod inner
