-- What a loop over sets of rows finds.
pub mod Marking
