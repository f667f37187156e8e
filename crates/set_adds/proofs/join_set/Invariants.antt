-- The loop's invariant: the bytes below i are joined.
use Rattle.set_adds.proofs.Joining.{JoinedTo}
use Rattle.set_adds.proofs.join_set.Given as goal

abbrev pub invariant-loop-i : goal.invariant-loop-i
invariant-loop-i l = JoinedTo l.at l.i l.set l.initial.store l.store l.more
