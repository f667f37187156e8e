-- `infer` meets its contract: 20 to 22 of the store, then the smallest tables and the counts of their lines.
use Rattle.std.proofs.lemmas.Result.{err_from_is_err_and}
use Rattle.call_infer.proofs.Outcomes.{refused_store, ready_store, left_store}
use Rattle.call_infer.proofs.infer.Goals as goal

pub smallest_sets-requires : goal.smallest_sets-requires
smallest_sets-requires c = ready_store _ _ c.in_ok-rows.ensures

pub returns-in_err-rows : goal.returns-in_err-rows
returns-in_err-rows c = let p = err_from_is_err_and c.from_residual.result c.from_residual.ensures.1 in rw (p.1, p.2) (refused_store _ _ c.in_err-rows.ensures)

pub returns : goal.returns
returns c =
    left_store _ _ c.in_ok-rows.ensures _ _ c.smallest_sets.ensures c.store_counts.ensures
