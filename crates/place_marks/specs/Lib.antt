-- The places of a channel.
pub mod Places
