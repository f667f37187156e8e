-- A grid of bytes, one for each pair of rows, and the rounds that close it.
pub mod Grid
pub mod Rounds
