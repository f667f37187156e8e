-- How large an answer can be.
pub mod Bounds
