-- What a form asks of each row in its set.
pub mod Asks
