pub mod Tables
pub mod Starts
