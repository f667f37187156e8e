-- Lists of rows.
pub mod Lists
pub mod Kinds
