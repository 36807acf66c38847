pub mod Makings
pub mod Replays
