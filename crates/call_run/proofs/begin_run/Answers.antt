-- 20 of all that is lent, then 21 and 22 of the store.
use native.Mathlib.Omega.{arith}
use mathlib.Core.Path.{◌≡◌, sym, ◌∙◌}
use Rattle.std.proofs.Common.{rules, Err}
use Rattle.run_calls.proofs.Opened.{long_told}
use Rattle.call_run.proofs.RunMoves.{begin_short, begin_refused, begin_opened}
use Rattle.call_run.proofs.begin_run.Goals as goal

pub returns-then-too_short : goal.returns-then-too_short
returns-then-too_short c = rw c.at.ensures (begin_short _ _ _ _ (sym c.too_short.ensures ∙ c.if-too_short.true))

pub begin_rows-requires : goal.begin_rows-requires
begin_rows-requires c = let l = long_told _ _ _ (sym c.too_short.ensures ∙ c.if-too_short.false) in record { run_size_in_bounds = l.run_long; a_record = omega (arith, l.records_lent) }

pub returns-in_err-open : goal.returns-in_err-open
returns-in_err-open c =
    let same : c.from_residual.result ≡ Err c.in_err-open.field-0.0 = search rules in
    rw same (begin_refused _ _ _ _ (sym c.too_short.ensures ∙ c.if-too_short.false) _ c.in_err-open.ensures)

pub returns : goal.returns
returns c = begin_opened _ _ _ _ (sym c.too_short.ensures ∙ c.if-too_short.false) _ c.in_ok-open.ensures c.begin_rows.ensures
