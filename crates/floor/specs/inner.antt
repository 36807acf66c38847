pub mod Ways
pub mod Wishes
pub mod Tokens
pub mod Keeping
pub mod Sharing
