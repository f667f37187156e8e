-- Laws of sets that grow.
pub mod Growing
pub mod Asked
