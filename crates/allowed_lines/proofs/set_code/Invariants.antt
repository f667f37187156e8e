-- The loop's invariant: the code so far, joined with that of the members from m on, is the code of the set.
use Prim.Native.Nat.{max}
use mathlib.Core.Path.{◌≡◌}
use Rattle.allowed_lines.specs.Lines.{set_code, set_at}
use Rattle.allowed_lines.proofs.Sets.{members_on}
use Rattle.allowed_lines.proofs.set_code.Given as goal

abbrev pub invariant-loop-m : goal.invariant-loop-m
invariant-loop-m l =
    max l.code (set_code l.members (members_on l.store l.at l.m)) ≡ set_code l.members (set_at l.store l.at)
