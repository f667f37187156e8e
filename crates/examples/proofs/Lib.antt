-- The examples, by computation.
pub mod Marked
