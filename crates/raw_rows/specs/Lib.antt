-- Rows as read, in the terms of the format's definitions.
pub mod Raw
