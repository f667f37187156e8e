-- Laws of the call.
pub mod Verdicts
