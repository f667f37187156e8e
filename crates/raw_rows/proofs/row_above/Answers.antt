-- The tests in the order of `Limits.above_bind`.
use Rattle.std.proofs.Common.{sym, ◌∙◌}
use Rattle.std.proofs.lemmas.Bool.{false≢true}
use Rattle.raw_rows.specs.Raw.{raw_row}
use Rattle.raw_rows.proofs.Limits.{above_result, above_bind}
use Rattle.raw_rows.proofs.row_above.Goals.{then-is_above, else-is_above}
use Rattle.raw_rows.proofs.row_above.Goals as goal

pub returns-in-Result : goal.returns-in-Result
unfolding raw_row
returns-in-Result c = rw (c.in-Result.is, above_result) c.is_above.ensures

pub returns-then-is_above-2 : goal.returns-then-is_above-2
unfolding raw_row
returns-then-is_above-2 c =
    rw (c.in-Bind.is, above_bind)
    (elim c.if-is_above.branch [
      | then-is_above w ↦ rw (w.value-is, ← c.is_above-in-Bind.ensures, w.if-is_above.true)
      | else-is_above w ↦
          rw (← c.is_above-in-Bind.ensures, w.if-is_above.false, ← w.is_above-else-is_above.ensures, ← w.value-is, c.if-is_above-2.true)
    ])

pub returns-else-is_above-2 : goal.returns-else-is_above-2
unfolding raw_row
returns-else-is_above-2 c =
    rw (c.in-Bind.is, above_bind)
    (elim c.if-is_above.branch [
      | then-is_above w ↦ absurd (false≢true (sym c.if-is_above-2.false ∙ (w.value-is ∙ w.if-is_above.true)))
      | else-is_above w ↦
          rw (← c.is_above-in-Bind.ensures, w.if-is_above.false, ← w.is_above-else-is_above.ensures, ← w.value-is, c.if-is_above-2.false)
          c.form_above.ensures
    ])
