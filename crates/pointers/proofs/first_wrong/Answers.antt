use mathlib.Core.Path.{ap, ◌∙◌}
use Rattle.program.specs.Program.{pointers}
use Rattle.seen.proofs.Smallest.{first_row}
use Rattle.pointers.proofs.Faults.{row_amiss}
use Rattle.pointers.proofs.first_wrong.Goals as goal

pub returns-then-again-has_stray : goal.returns-then-again-has_stray
returns-then-again-has_stray c =
    let row = c.numbers-targets.ensures ∙ c.pointers_of-few.ensures ∙ ap pointers c.row_at.ensures in
    first_row _ _ _ c.loop-r-test.true (row_amiss _ _ _ c.loop-r-test.true _ _ _ c.see_few-again.ensures row c.loop-r.invariant.0 c.has_stray.ensures (c.is_lost.ensures _ c.pointed-all.ensures) c.if-again-has_stray.true) c.loop-r.invariant.1
