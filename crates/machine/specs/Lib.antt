-- What a watched run does, over threads, cells and frames, and how they stand in lent memory.
pub mod Machine
pub mod Meaning
pub mod Standing
