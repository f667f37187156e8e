-- What walks come to.
pub mod Walks
