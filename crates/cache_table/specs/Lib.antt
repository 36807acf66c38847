pub mod Names
pub mod Table
pub mod Baseline
pub mod Keeping
pub mod inner
