pub mod Traffic
pub mod Marks
pub mod Room
pub mod Marking
pub mod inner
