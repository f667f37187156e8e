-- Theorems about the run calls.
pub mod Left
pub mod Opened
pub mod Watching
