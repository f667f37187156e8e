-- What a sync asks.
pub mod Rules
