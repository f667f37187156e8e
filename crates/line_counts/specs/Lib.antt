-- The counts of a store.
pub mod Counting
