-- Laws that the proof of `pack_verdict` rests on.
pub mod Words
