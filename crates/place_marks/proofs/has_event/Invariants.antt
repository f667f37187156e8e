-- None of the rows so far is in the set.
use Prim.Native.Nat.{◌+◌}
use mathlib.Core.Bool.{false}
use mathlib.Core.Path.{◌≡◌}
use Rattle.program.specs.Test.{any}
use Rattle.format.specs.Text.{byte_at}
use Rattle.row_marks.specs.RowMarks.{on}
use Rattle.place_marks.proofs.has_event.Given as goal

abbrev pub invariant-loop-s : goal.invariant-loop-s
invariant-loop-s l = any l.s-index (λ j. on l.store (l.at + byte_at l.events j)) ≡ false
