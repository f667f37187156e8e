-- Laws of the call.
pub mod Judges
