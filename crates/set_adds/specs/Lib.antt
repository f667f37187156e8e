-- What a change adds to the sets of a store.
pub mod Adding
