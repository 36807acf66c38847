pub mod Jammed
