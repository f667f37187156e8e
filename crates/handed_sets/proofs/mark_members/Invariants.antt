use Rattle.handed_sets.proofs.Marking.{Going}
use Rattle.handed_sets.proofs.mark_members.Given as goal

abbrev pub invariant-loop-row : goal.invariant-loop-row
invariant-loop-row l = Going l.unit l.list l.allowed l.row-index l.least l.set
