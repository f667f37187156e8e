-- The result rows of a program's rows.
pub mod Results
