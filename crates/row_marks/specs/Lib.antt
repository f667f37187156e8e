-- Sets of rows as bytes.
pub mod RowMarks
