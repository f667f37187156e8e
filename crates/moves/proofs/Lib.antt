-- Laws about what a move leaves.
pub mod Making
