pub mod BaselineCells
pub mod Keeping
mod LaidOver
