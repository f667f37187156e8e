-- The last line that an answer can name.
pub mod LastLine
