-- Laws that the proofs of the functions share, and those of the loops over rows that use them.
pub mod Marking
pub mod Smallest
