-- `judge` meets its contract: 20 to 22 of the store, then what its document gives.
use Rattle.std.proofs.lemmas.Result.{err_from_is_err_and}
use mathlib.Core.Path.{sym}
use Rattle.opening.proofs.Opening.{fixed_size, counted, as_it_was}
use Rattle.call_judge.proofs.Judges.{judge_closed, judge-opened}
use Rattle.call_judge.proofs.judge.Goals as goal

pub slice_bounds-judge_rows-end : goal.slice_bounds-judge_rows-end
slice_bounds-judge_rows-end c = sym (fixed_size _ _ c.in_ok-rows.ensures)

pub judge_rows-requires : goal.judge_rows-requires
judge_rows-requires c = record { store_len = fixed_size _ _ c.in_ok-rows.ensures; rows_value = counted _ _ c.in_ok-rows.ensures }

pub returns-in_err-rows : goal.returns-in_err-rows
returns-in_err-rows c = let p = err_from_is_err_and c.from_residual.result c.from_residual.ensures.1 in rw (p.1, p.2) (as_it_was (judge_closed _ c.in_err-rows.ensures))

pub returns : goal.returns
returns c = as_it_was (judge-opened _ _ c.in_ok-rows.ensures c.judge_rows.ensures)
