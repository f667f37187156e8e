-- What replace and preview give: `Replacement`.
pub mod Handed
pub mod Entries
pub mod Replacement
