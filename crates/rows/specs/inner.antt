pub mod Items
pub mod Words
pub mod Tree
