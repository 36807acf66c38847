pub mod Groups
pub mod Places
pub mod Search
