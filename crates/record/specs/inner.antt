pub mod Drafts
pub mod Holding
pub mod Pieces
pub mod Readers
