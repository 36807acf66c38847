pub mod Calls
pub mod Cursors
pub mod Repeats
pub mod Stock
pub mod Telling
pub mod inner
