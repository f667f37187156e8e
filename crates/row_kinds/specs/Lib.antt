-- The rows of a program as far as row steps ask.
pub mod Kinds
