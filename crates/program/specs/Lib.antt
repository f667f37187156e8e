-- Programs, tables, walks and runs. The files in the order of docs/FORMAT.md; the first four hold general vocabulary.
pub mod Maybe
pub mod Test
pub mod Each
pub mod Snoc
pub mod Program
pub mod Flow
pub mod FlowRule
pub mod Topology
pub mod Walk
pub mod Closure
pub mod Verdict
pub mod Run
pub mod History
