-- Laws about the definitions of specs/, and what the proofs of several functions share.
pub mod Giving
pub mod Steps
