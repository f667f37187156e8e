-- The loop's invariant: `rest` is 0 exactly if b has each of the first i members that a has.
use Rattle.std.proofs.Common.{◌≡◌, ◌≤◌, nat_eq}
use Rattle.sets.specs.Sets.{within}
use Rattle.sets.proofs.within.Given as goal

abbrev pub invariant-loop-i : goal.invariant-loop-i
invariant-loop-i l = record { some : l.i ≤ l.members; lies : nat_eq l.rest 0 ≡ within l.i l.a l.b }
