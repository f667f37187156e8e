-- Laws that the proofs of the functions share.
pub mod Sets
pub mod Checking
pub mod Rulesets
