pub mod Lists
pub mod Drawing
pub mod Seating
pub mod Collecting
pub mod Filled
pub mod Worked
