-- The demands, of the definitions and of the functions.
pub mod Demands
pub mod Promises
