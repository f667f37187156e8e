-- The executable verdict says of all pairs of walks what a claim says.
pub mod Closure
pub mod Targets
pub mod Reach
pub mod Leads
pub mod Verdicts
