-- Laws that the proof of `put_store` rests on.
pub mod Parts
pub mod Bounds
