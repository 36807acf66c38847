pub mod CellPlaces
pub mod Overriding
