-- What the tests of one cell, frame and thread go by.
pub mod Known
