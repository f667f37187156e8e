-- Laws of look-ups.
pub mod Cells
