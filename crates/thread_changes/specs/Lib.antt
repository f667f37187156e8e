-- What a thread's move does, as the enum of the code has it.
pub mod Changes
