pub mod Counts
pub mod Flags
pub mod Lends
pub mod Row
pub mod inner
