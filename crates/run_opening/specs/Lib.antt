-- What opening a run answers.
pub mod RunOpening
