-- The loop's invariant: what is added lies in all tables that keep the rules. The measure: a round that adds something leaves fewer bytes that are 0, and one that adds nothing is the last.
use Rattle.spreading.proofs.Growing.{rounds_left}
use Rattle.smallest.proofs.Settling.{Spreads}
use Rattle.smallest.proofs.settle.Given as goal

abbrev pub invariant-loop-more : goal.invariant-loop-more
invariant-loop-more l =
    Spreads l.rows l.initial.store l.store l.more

abbrev pub decreases-loop-more : goal.decreases-loop-more
decreases-loop-more l = rounds_left l.store l.more
