pub mod Cores
pub mod inner
