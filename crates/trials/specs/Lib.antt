pub mod Terms
pub mod Moments
pub mod Trial
pub mod Making
pub mod Answering
pub mod Names
pub mod Series
pub mod inner
