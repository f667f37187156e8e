-- Soundness: what a claim says of walks holds of the history of every run.
pub mod Forms
pub mod Shape
pub mod Result
pub mod Values
pub mod Edges
pub mod States
pub mod Moves
pub mod Events
pub mod Walks
pub mod Traces
pub mod Pools
pub mod Runs
pub mod Histories
