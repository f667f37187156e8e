use Rattle.std.proofs.Common.{arith, refl}
use Rattle.handed_sets.proofs.Marking.{with_unit, without_unit, not_rising_lem, one_more}
use Rattle.handed_sets.proofs.mark_members.Goals.{then-unit, else-unit}
use Rattle.handed_sets.proofs.mark_members.Goals as goal

pub loop-row-init : goal.loop-row-init
loop-row-init c = elim c.if-unit.branch [
  | then-unit w ↦ with_unit _ _ c.requires.0 w.if-unit.true w.set-is
  | else-unit w ↦ without_unit _ _ c.requires.0 w.if-unit.false w.set-is
]

pub returns-then-r-least : goal.returns-then-r-least
returns-then-r-least c = not_rising_lem _ _ _ c.loop-row.invariant c.loop-row-test.true refl c.if-r-least.true

pub loop-row-preserved : goal.loop-row-preserved
loop-row-preserved c =
    one_more _ _ _ c.loop-row.invariant c.loop-row-test.true refl c.if-r-least.false (omega (arith, c.byte_at.ensures, c.if-byte_at-eq0.false))
