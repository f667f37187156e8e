-- The files of the examples.
pub mod Files
