-- Every answer of the run calls is packed without loss.
pub mod RunLossless
