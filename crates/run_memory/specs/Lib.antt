-- The run memory's layout.
pub mod RunMemory
