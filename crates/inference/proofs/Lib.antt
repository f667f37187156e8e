-- What infer gives: `Inference`.
pub mod Tables
pub mod Inference
