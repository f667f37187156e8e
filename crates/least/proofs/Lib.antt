-- The smallest tables keep every flow rule and lie in all tables that do: `Least`.
pub mod Lists
pub mod Constraints
pub mod Widest
pub mod Least
