use mathlib.Core.Path.{sym, ap, ◌∙◌}
use Rattle.program.specs.Program.{binders}
use Rattle.seen.proofs.Smallest.{first_row}
use Rattle.binders.proofs.Faults.{binder_row}
use Rattle.binders.proofs.binder_fault.Goals as goal

pub returns-then-see_few-clause-fault : goal.returns-then-see_few-clause-fault
returns-then-see_few-clause-fault c =
    let row = c.numbers.ensures ∙ c.binders_of.ensures ∙ ap binders c.row_at.ensures in
    let is = binder_row _ _ _ c.loop-r-test.true _ _ _ c.see_few.ensures row c.loop-r.invariant.0 in
    first_row _ _ _ c.loop-r-test.true (sym is ∙ c.if-see_few.true) c.loop-r.invariant.1
