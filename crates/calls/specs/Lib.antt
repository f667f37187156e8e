-- The store, and the four calls as definitions on bytes.
pub mod Layout
pub mod Answers
pub mod Judging
pub mod Calls
pub mod Exact
pub mod Canonical
