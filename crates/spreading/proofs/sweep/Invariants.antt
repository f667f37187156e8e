-- The loop's invariant: the sets have grown.
use Rattle.spreading.specs.Growing.{Grows}
use Rattle.spreading.proofs.sweep.Given as goal

abbrev pub invariant-loop-k : goal.invariant-loop-k
invariant-loop-k l = Grows l.rows l.initial.store l.store l.more
