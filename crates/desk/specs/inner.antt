pub mod Drawing
pub mod Keeping
