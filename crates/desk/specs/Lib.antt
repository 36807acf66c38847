pub mod Plans
pub mod Counting
pub mod Seats
pub mod Opening
pub mod Calls
pub mod Closing
pub mod Working
pub mod inner
