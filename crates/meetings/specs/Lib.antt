-- What a meeting does, as the struct of the code has it.
pub mod Meetings
