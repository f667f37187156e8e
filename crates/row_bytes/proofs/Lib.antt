-- Laws that the proofs of the functions share.
pub mod Counting
pub mod RowBytes
pub mod FirstRows
