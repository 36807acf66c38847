pub mod Going
pub mod Notes
