-- Laws about opening a run.
pub mod RunOpening
