-- Files: documents and their text, reading with refusals 1 to 5, structure with refusals 6 to 9.
pub mod Limits
pub mod Refusals
pub mod Text
pub mod Document
pub mod Forms
pub mod Print
pub mod Read
pub mod Scope
pub mod Structure
pub mod WellFormed
pub mod Check
