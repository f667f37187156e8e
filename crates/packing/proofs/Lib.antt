-- Laws that the proofs of the functions share, and that packing loses nothing.
pub mod Unpacking
pub mod Answers
