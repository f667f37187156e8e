-- Laws of the call.
pub mod Texts
pub mod Keys
