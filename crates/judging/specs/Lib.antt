-- What judging a store answers and leaves.
pub mod Judged
