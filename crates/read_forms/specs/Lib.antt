-- What the answers of this crate say, in the terms of the format's definitions.
pub mod Reads
