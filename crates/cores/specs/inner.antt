pub mod Counted
pub mod Touched
