pub mod Pairs
pub mod Marking
pub mod Sights
pub mod inner
