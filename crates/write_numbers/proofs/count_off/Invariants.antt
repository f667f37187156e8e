-- What is counted and what is left make up the value; the count is no more than what was taken off, so that it fits. The rest falls.
use Prim.Native.Nat.{◌+◌, ◌*◌, ◌≤◌}
use mathlib.Core.Path.{◌≡◌}
use Rattle.write_numbers.proofs.count_off.Given as goal

abbrev pub invariant-loop-rest : goal.invariant-loop-rest
invariant-loop-rest l =
    (l.n ≡ l.count * l.p + l.rest) × (l.count + l.rest ≤ l.n)

abbrev pub decreases-loop-rest : goal.decreases-loop-rest
decreases-loop-rest l = l.rest
