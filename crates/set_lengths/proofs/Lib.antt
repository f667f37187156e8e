-- Laws that the proofs of the functions share.
pub mod Members
pub mod Lines
pub mod Rulesets
