-- What the functions of this crate count.
pub mod Lengths
