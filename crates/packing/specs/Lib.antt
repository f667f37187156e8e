-- What the functions of this crate promise.
pub mod Packing
pub mod Values
