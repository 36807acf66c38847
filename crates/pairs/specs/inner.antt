-- how the short lists of a pair are stored, and how a pair is followed
pub mod Short
pub mod Following
pub mod Alike
