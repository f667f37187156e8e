-- The loop's invariant: the lines counted and those of the sets from k on are all.
use Prim.Native.Nat.{◌+◌, ◌≤◌}
use mathlib.Core.Path.{◌≡◌}
use Rattle.format.specs.Limits.{row_limit}
use Rattle.set_counts.proofs.Counting.{entries_from}
use Rattle.set_counts.proofs.count_sets.Given as goal

abbrev pub invariant-loop-k : goal.invariant-loop-k
invariant-loop-k l =
    (l.lines ≤ l.k) × (l.lines + entries_from row_limit l.k l.sets ≡ entries_from row_limit 0 l.sets)
