-- What the functions of this crate answer.
pub mod Flags
pub mod Seen
