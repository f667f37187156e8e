-- Laws that the proof of `canonical` rests on.
pub mod Parts
