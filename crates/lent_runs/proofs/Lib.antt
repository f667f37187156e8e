-- The records that may be in use, and the whole lent list.
pub mod ByValue
pub mod Copies
pub mod Counts
pub mod Lent
pub mod Public
