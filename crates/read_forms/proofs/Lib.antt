-- Laws that the proofs of the functions share.
pub mod Words
pub mod Forms
