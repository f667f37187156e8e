-- Sets as bytes.
pub mod Sets
