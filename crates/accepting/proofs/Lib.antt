-- What load and judge promise, put together.
pub mod Accepting
