pub mod Changes
pub mod Code
pub mod Kept
pub mod Opening
