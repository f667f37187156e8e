-- The form of a row.
pub mod Forms
