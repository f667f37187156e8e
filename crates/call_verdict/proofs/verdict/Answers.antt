-- `verdict` meets its contract: 20 to 22 of the store, then what its document gives.
use mathlib.Core.Path.{sym, ◌∙◌}
use Rattle.opening.proofs.Opening.{fixed_size, counted, as_it_was}
use Rattle.call_verdict.proofs.Verdicts.{verdict_closed, verdict-opened}
use Rattle.call_verdict.proofs.verdict.Goals as goal

pub slice_bounds-verdict_rows-end : goal.slice_bounds-verdict_rows-end
slice_bounds-verdict_rows-end c = sym (fixed_size _ _ c.in-Ok.ensures)

pub verdict_rows-requires : goal.verdict_rows-requires
verdict_rows-requires c = record { store_len = fixed_size _ _ c.in-Ok.ensures; rows_value = counted _ _ c.in-Ok.ensures }

pub returns-in-Err : goal.returns-in-Err
returns-in-Err c = as_it_was (c.no_verdict.ensures ∙ verdict_closed _ c.in-Err.ensures _)

pub returns-in-Ok : goal.returns-in-Ok
returns-in-Ok c = as_it_was (verdict-opened _ _ c.in-Ok.ensures _ c.verdict_rows.ensures)
