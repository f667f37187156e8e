-- The loop's invariant: the marks are those of the rows that the first r rows point at.
use Rattle.program.specs.Program.{pointers}
use Rattle.program.specs.Each.{collect}
use Rattle.store.specs.Rows.{store_program}
use Rattle.seen.specs.Seen.{Marks}
use Rattle.pointers.proofs.pointed.Given as goal

abbrev pub invariant-loop-r : goal.invariant-loop-r
invariant-loop-r l = Marks (collect pointers (store_program l.r l.store)) l.marks
