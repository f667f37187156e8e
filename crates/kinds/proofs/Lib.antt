-- A law that the proofs of the functions share.
pub mod Counts
