-- What accepting a file promises.
pub mod Accepting
