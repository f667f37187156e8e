-- The claims of a store in turn.
pub mod Claims
