-- Laws of the rules that are followed.
pub mod Asking
