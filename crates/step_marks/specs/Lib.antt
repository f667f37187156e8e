-- The row steps that belong together.
pub mod Marks
