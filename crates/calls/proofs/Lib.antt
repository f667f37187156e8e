-- Theorems about the definitions of specs/.
pub mod Patches
pub mod Codec
pub mod Canonical
pub mod Names
pub mod Judging
pub mod Calls
pub mod Exact
pub mod Numbers
