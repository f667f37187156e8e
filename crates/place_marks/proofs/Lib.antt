-- The places of a channel, from the bytes of the sets.
pub mod Placing
