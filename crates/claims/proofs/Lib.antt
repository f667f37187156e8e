-- Laws about the claims in turn.
pub mod Claiming
