-- Laws of the rule of a sync for what it sends.
pub mod Sending
