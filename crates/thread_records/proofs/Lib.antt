-- What each turn of the loops keeps.
pub mod Turns
