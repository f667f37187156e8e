-- Laws about what a thread's move does.
pub mod Rules
