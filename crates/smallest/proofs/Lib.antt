-- Laws of rounds over the rows.
pub mod Rows
pub mod Settling
