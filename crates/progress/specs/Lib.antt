-- What has been read, and what it says of the next line.
pub mod Progress
pub mod Lines
