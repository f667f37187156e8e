-- What a sync may receive.
pub mod Received
