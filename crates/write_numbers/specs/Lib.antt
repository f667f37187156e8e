-- What counting off leaves.
pub mod Counting
