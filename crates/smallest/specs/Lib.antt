-- The smallest tables in a store.
pub mod Smallest
