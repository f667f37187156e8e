-- What infer leaves: the bytes and the counts of the document with the smallest tables.
pub mod Stores
pub mod Outcomes
