-- Laws of changes that add to the sets of a store.
pub mod Variables
pub mod Joining
pub mod Adding
