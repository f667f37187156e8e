-- `store_counts` meets its contract: each part of the store is counted.
use Rattle.line_counts.proofs.Counting.{counted}
use Rattle.line_counts.proofs.store_counts.Goals as goal

pub returns : goal.returns
returns c = counted _ _ _ _ _ c.count_sets-flows.ensures c.count_sets-comms.ensures c.count_claims-claims.ensures
