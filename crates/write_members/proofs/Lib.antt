-- Laws that the proof of the writer uses.
pub mod Members
