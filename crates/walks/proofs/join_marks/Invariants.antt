-- The first j marks are joined, the others as they were.
use Rattle.walks.proofs.Walking.{JoinsTo}
use Rattle.walks.proofs.join_marks.Given as goal

abbrev pub invariant-loop-j : goal.invariant-loop-j
invariant-loop-j l = JoinsTo l.grid l.at l.initial.marks l.j l.marks
