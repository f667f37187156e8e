-- Laws that the proof of `store_length` rests on.
pub mod Texts
