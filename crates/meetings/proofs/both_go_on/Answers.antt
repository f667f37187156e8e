-- `both_go_on` meets its contract: the receiver takes the next cell, and the sender the one after it.
use native.Mathlib.Omega.{arith}
use mathlib.Core.Path.{ap}
use Rattle.run_memory.specs.declared.InUse.{InUse}
use Rattle.meetings.proofs.Both.{both_go_on_lem}
use Rattle.meetings.proofs.both_go_on.Goals as goal

pub overflow_add-newest : goal.overflow_add-newest
overflow_add-newest c = let e = ap (λ (n : InUse). n.cells) c.in_use-n.ensures in omega (arith, c.requires.cells, e)

pub overflow_add-result : goal.overflow_add-result
overflow_add-result c = let e = ap (λ (n : InUse). n.cells) c.in_use-n.ensures in omega (arith, c.requires.cells, e)

pub returns : goal.returns
returns c = both_go_on_lem _ _ _ _ _ _ _ c.in_use-n.ensures
