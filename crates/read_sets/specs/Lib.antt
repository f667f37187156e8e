-- What reading a set promises.
pub mod Sets
