-- What the writes leave.
pub mod Write
