-- What the words say of a channel.
pub mod Words
pub mod Ready
