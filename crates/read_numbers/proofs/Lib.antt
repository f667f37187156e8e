-- A law that the proof of the number reader uses.
pub mod Digits
