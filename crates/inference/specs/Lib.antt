-- The call infer, and what is promised of it.
pub mod Inference
pub mod Inferred
