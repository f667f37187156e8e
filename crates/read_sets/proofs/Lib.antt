-- Laws that the proofs of the functions share.
pub mod Marks
pub mod Faults
pub mod Members
