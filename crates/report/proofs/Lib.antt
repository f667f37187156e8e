-- Theorems about the report.
pub mod Report
