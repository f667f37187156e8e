-- The rows of a store, by their numbers, and the document and the tables of a store's bytes.
pub mod Rows
pub mod Document
