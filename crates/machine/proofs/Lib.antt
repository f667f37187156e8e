-- Theorems about the definitions of specs/.
pub mod Like
pub mod Flat
pub mod Meaning
pub mod Changes
pub mod Leaves
pub mod Lined
pub mod Stands
pub mod Meetings
pub mod Watched
pub mod There
pub mod Sound
pub mod Taking
pub mod Examples
