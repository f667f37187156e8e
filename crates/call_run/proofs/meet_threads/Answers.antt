-- 20 to 22 of what is lent, then what the rows give.
use mathlib.Core.Path.{◌≡◌, sym}
use Rattle.std.proofs.Common.{rules, Err}
use Rattle.call_run.proofs.RunMoves.{move_refused, move_opened, opens_known}
use Rattle.call_run.proofs.meet_threads.Goals as goal

pub slice_bounds-meet_rows-end : goal.slice_bounds-meet_rows-end
slice_bounds-meet_rows-end c = sym (opens_known _ _ _ _ _ c.in_ok-rows.ensures).1.size

pub meet_rows-requires : goal.meet_rows-requires
meet_rows-requires c = let k = (opens_known _ _ _ _ _ c.in_ok-rows.ensures).1 in record { lends = k.lends; in_limits = k.limits }

pub returns-in_err-rows : goal.returns-in_err-rows
returns-in_err-rows c =
    let same : c.from_residual.result ≡ Err c.in_err-rows.field-0.0 = search rules in
    rw same (move_refused _ _ _ _ _ _ c.in_err-rows.ensures)

pub returns : goal.returns
returns c = move_opened _ _ _ _ _ _ c.in_ok-rows.ensures c.meet_rows.ensures
