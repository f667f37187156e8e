-- What a digit that was read says of its position.
use Prim.Native.Nat.{ℕ, ◌<◌, ◌≤◌}
use mathlib.Core.Path.{◌≡◌}
use native.Mathlib.Omega.{arith}
use native.Mathlib.Decide.{dec_lt}
use lib.ListN.{length}
use Rattle.format.specs.Text.{Bytes, byte_at, digit_of, digit_at}
use Rattle.format.proofs.Stands.{inside}

-- a digit stands inside the file
pub digit_inside : (s : Bytes) (at r : ℕ) → r ≡ digit_at s at → r ≤ 9 → at < length s
unfolding digit_of digit_at
digit_inside s at r e h = inside s at (elim (dec_lt 0 (byte_at s at)) [ yes p ↦ p | no q ↦ absurd (zero_digit (omega arith)) ])
  where
    zero_digit : byte_at s at ≡ 0 → ⊥
    zero_digit z = let k : r ≡ 10 = rw z at e in omega arith
