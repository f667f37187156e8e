-- The loop's invariant: the marks are those of the names that the first r rows bind, and no row before r has a fault.
use Rattle.program.specs.Program.{binders}
use Rattle.program.specs.Each.{collect}
use Rattle.format.specs.Structure.{binder_fault}
use Rattle.store.specs.Rows.{store_program}
use Rattle.seen.specs.Seen.{Marks}
use Rattle.seen.proofs.Smallest.{Passed}
use Rattle.binders.proofs.binder_fault.Given as goal

abbrev pub invariant-loop-r : goal.invariant-loop-r
invariant-loop-r l = Marks (collect binders (store_program l.r l.store)) l.marks × Passed (binder_fault (store_program l.rows l.store)) l.r
