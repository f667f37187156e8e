-- What the proofs of the functions share.
pub mod Fuel
pub mod Undone
