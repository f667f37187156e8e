-- The loop's invariant: no key from n to k is marked.
use Prim.Native.Nat.{ℕ, ◌≤◌, ◌<◌}
use mathlib.Core.Path.{◌≡◌}
use Rattle.format.specs.Text.{byte_at}
use Rattle.sound_lines.proofs.next_key.Given as goal

abbrev pub invariant-loop-k : goal.invariant-loop-k
invariant-loop-k l =
    (j : ℕ) → l.n ≤ j → j < l.k → byte_at l.keys j ≡ 0
