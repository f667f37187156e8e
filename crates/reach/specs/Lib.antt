-- The row steps of a program, by the rows that give them.
pub mod Edges
