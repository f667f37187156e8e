-- The text of a file's report.
pub mod Report
