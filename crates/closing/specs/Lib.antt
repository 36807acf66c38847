pub mod Closed
pub mod Ranked
pub mod Blamed
pub mod inner
