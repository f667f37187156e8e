-- The rule of a sync, for what it sends.
pub mod Sends
