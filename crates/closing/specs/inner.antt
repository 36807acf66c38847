-- what only the contracts of private functions cite
pub mod Told
pub mod Numbered
pub mod Explained
