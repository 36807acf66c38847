pub mod Behind
pub mod Filled
