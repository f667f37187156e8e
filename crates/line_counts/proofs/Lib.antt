-- Laws of the counts of a store.
pub mod Counting
