-- The texts that the functions of this crate write, beside those of the format.
pub mod Heads
