-- The loop's invariant: the marks are those of the rows that the first r rows point at, and no row before r has a fault.
use Rattle.program.specs.Program.{pointers}
use Rattle.program.specs.Each.{collect}
use Rattle.format.specs.Structure.{pointer_fault}
use Rattle.store.specs.Rows.{store_program}
use Rattle.seen.specs.Seen.{Marks}
use Rattle.seen.proofs.Smallest.{Passed}
use Rattle.pointers.proofs.in_order.Given as goal

abbrev pub invariant-loop-r : goal.invariant-loop-r
invariant-loop-r l = Marks (collect pointers (store_program l.r l.store)) l.marks × Passed (pointer_fault (store_program l.rows l.store)) l.r
