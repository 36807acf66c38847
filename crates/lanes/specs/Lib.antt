pub mod Lanes
pub mod Fitting
pub mod Picks
pub mod inner
