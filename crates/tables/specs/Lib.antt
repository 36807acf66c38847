pub mod CellPlaces
pub mod Tables
pub mod Written
pub mod Overrides
pub mod inner
