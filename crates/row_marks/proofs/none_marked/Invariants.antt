-- Where nothing is found the first r bytes are 0.
use Prim.Native.Nat.{ℕ, ◌<◌}
use mathlib.Core.Path.{◌≡◌}
use Rattle.format.specs.Text.{byte_at}
use Rattle.row_marks.proofs.none_marked.Given as goal

abbrev pub invariant-loop-r : goal.invariant-loop-r
invariant-loop-r l = l.found ≡ 0 → (q : ℕ) → q < l.r → byte_at l.marks q ≡ 0
