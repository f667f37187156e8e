-- 20 of all that is lent, then 21, then 22.
use mathlib.Core.Path.{◌≡◌, sym, ◌∙◌}
use Rattle.std.proofs.Common.{rules, Err}
use Rattle.opening.proofs.Opening.{fixed_size}
use Rattle.run_calls.proofs.Opened.{long_told}
use Rattle.run_opening.proofs.RunOpening.{short_refused, not_begun_refused, store_refused, run_refused, run_opens}
use Rattle.run_opening.proofs.open_run.Goals as goal

pub returns-then-too_short : goal.returns-then-too_short
returns-then-too_short c = rw c.at.ensures (short_refused _ _ _ _ (sym c.too_short.ensures ∙ c.if-too_short.true))

pub returns-then-in_use-eq0 : goal.returns-then-in_use-eq0
returns-then-in_use-eq0 c = rw c.at-then-in_use-eq0.ensures (not_begun_refused _ _ _ _ (sym c.too_short.ensures ∙ c.if-too_short.false) _ c.in_use.ensures c.if-in_use-eq0.true)

pub returns-in_err-rows : goal.returns-in_err-rows
returns-in_err-rows c =
    let same : c.from_residual.result ≡ Err c.in_err-rows.field-0.0 = search rules in
    rw same (store_refused _ _ _ _ (sym c.too_short.ensures ∙ c.if-too_short.false) _ c.in_use.ensures c.if-in_use-eq0.false _ c.in_err-rows.ensures)

pub slice_bounds-sound_run-end : goal.slice_bounds-sound_run-end
slice_bounds-sound_run-end c = sym (fixed_size _ _ c.in_ok-rows.ensures)

pub returns-then-not-sound_run : goal.returns-then-not-sound_run
returns-then-not-sound_run c =
    rw c.at-then-not-sound_run.ensures (run_refused _ _ _ _ (sym c.too_short.ensures ∙ c.if-too_short.false) _ c.in_use.ensures c.if-in_use-eq0.false _ c.in_ok-rows.ensures (sym c.sound_run.ensures ∙ c.if-not-sound_run.true))

pub returns : goal.returns
returns c =
    let long = sym c.too_short.ensures ∙ c.if-too_short.false in
    run_opens _ _ _ _ long _ c.in_use.ensures c.if-in_use-eq0.false _ c.in_ok-rows.ensures (sym c.sound_run.ensures ∙ c.if-not-sound_run.false) (long_told _ _ _ long).records_lent
