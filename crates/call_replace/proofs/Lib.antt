-- Laws that the proof of the function uses.
pub mod Outcomes
