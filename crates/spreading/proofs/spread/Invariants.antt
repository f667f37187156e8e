-- The loop's invariant: the sets have grown. The measure: rounds that add something leave fewer bytes that are 0, and others are the last.
use mathlib.Core.Bool.{false}
use Rattle.spreading.specs.Growing.{Grows}
use Rattle.spreading.proofs.Growing.{rounds_left}
use Rattle.spreading.proofs.spread.Given as goal

abbrev pub invariant-loop-more : goal.invariant-loop-more
invariant-loop-more l = Grows l.rows l.initial.store l.store false

abbrev pub decreases-loop-more : goal.decreases-loop-more
decreases-loop-more l = rounds_left l.store l.more
