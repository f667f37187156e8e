-- What the functions of this crate promise.
pub mod Answers
pub mod File
