-- The loop's invariant: the marks are those of the names that the first r rows bind.
use Rattle.program.specs.Program.{binders}
use Rattle.program.specs.Each.{collect}
use Rattle.store.specs.Rows.{store_program}
use Rattle.seen.specs.Seen.{Marks}
use Rattle.binders.proofs.bound.Given as goal

abbrev pub invariant-loop-r : goal.invariant-loop-r
invariant-loop-r l = Marks (collect binders (store_program l.r l.store)) l.marks
