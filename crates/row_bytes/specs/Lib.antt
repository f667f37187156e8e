-- What the tests of a row's bytes answer.
pub mod Rows
