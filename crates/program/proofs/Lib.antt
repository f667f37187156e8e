-- Theorems about the definitions of specs/. `Sound.Histories` has soundness, `Decides.Verdicts` the exactness of verdicts, `FlowRule` that of the flow rules.
pub mod Test
pub mod Maybe
pub mod Each
pub mod Snoc
pub mod Topology
pub mod WellFormed
pub mod FlowRule
pub mod Sound
pub mod Decides
pub mod Examples
