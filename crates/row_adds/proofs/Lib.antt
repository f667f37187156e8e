-- Laws of the rule of a row.
pub mod Rows
