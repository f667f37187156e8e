-- What is asked of the channels of a send or recv row.
pub mod Channels
