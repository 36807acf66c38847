pub mod Holding
pub mod Going
pub mod Noting
pub mod Tracked
