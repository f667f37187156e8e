-- Every answer of the calls is packed without loss.
pub mod Lossless
