-- What is kept of a grid, a grid of zeros, rows of it joined, and the rounds that close it.
pub mod Keeping
pub mod Steps
pub mod Stepping
pub mod Passes
pub mod Closing
pub mod Settled
