-- The texts that the functions of this crate write, beside those of the format, and the marks they go by.
pub mod Texts
pub mod Keys
