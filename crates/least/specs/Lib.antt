-- The smallest tables of a program.
pub mod Least
