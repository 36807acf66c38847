pub mod Choices
pub mod Listed
pub mod Marks
pub mod Owned
pub mod Words
pub mod inner
