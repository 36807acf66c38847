pub mod HomeSends
pub mod HomeCounts
pub mod HomeLinks
pub mod Reaching
pub mod LineSends
mod Shared
