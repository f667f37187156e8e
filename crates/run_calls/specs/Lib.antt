-- The run calls.
pub mod RunCalls
pub mod Watching
