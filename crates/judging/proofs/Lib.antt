-- Laws about judge and verdict of the document in a store.
pub mod Documents
