pub mod Scenes
pub mod Watching
pub mod Violations
pub mod Finding
