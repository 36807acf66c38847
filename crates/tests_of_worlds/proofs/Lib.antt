pub mod Promises
mod Unwrapping
