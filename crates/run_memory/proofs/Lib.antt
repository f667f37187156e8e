-- Laws of the run memory.
pub mod Codec
