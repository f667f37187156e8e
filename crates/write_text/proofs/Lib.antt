-- Laws of texts that are written behind the head of a line.
pub mod Head
