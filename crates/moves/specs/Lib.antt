-- What a move that is allowed leaves.
pub mod Moves
