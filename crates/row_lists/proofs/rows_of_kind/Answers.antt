use native.Mathlib.Omega.{arith}
use mathlib.Core.List.{[], ◌∷◌}
use mathlib.Core.Path.{◌∙◌}
use Rattle.std.proofs.lemmas.List.{length-append}
use Rattle.row_lists.proofs.OfKind.{kind_here, kind_other}
use Rattle.row_lists.proofs.rows_of_kind.Goals.{then-byte_at-kind, else-byte_at-kind}
use Rattle.row_lists.proofs.rows_of_kind.Goals as goal

pub loop-r-preserved : goal.loop-r-preserved
loop-r-preserved c = elim c.if-byte_at-kind.branch [
  | then-byte_at-kind w ↦
      rw (w.list-is ∙ w.push.ensures)
      (omega (arith, length-append c.loop-r.list (c.loop-r.r ∷ []), c.loop-r.invariant.0), kind_here _ _ _ c.byte_at.ensures w.if-byte_at-kind.true c.loop-r.invariant.1)
  | else-byte_at-kind w ↦ rw w.list-is (omega (arith, c.loop-r.invariant.0), kind_other _ _ _ c.byte_at.ensures w.if-byte_at-kind.false c.loop-r.invariant.1)
]
