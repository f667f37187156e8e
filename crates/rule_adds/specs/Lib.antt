-- The rules that are followed.
pub mod Rules
