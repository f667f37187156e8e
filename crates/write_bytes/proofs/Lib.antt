-- Laws of texts that are written in parts.
pub mod Writing
pub mod Progress
