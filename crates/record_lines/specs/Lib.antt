pub mod Cells
pub mod Versions
pub mod Text
pub mod Grammar
pub mod Refused
pub mod Reading
pub mod inner
