-- The calls replace and preview, and what is promised of them.
pub mod Replacement
pub mod Replaced
