-- The length of a text that is counted in parts, one behind the other.
use Prim.Native.Nat.{ℕ, ◌+◌, ◌≤◌}
use native.Mathlib.Omega.{arith}
use mathlib.Core.Path.{◌≡◌}

-- of so many bytes these are counted, and the rest is left
pub record Counted (whole counted rest : ℕ) : Type 0 where
  pub sum : counted + rest ≡ whole

pub start : {whole : ℕ} → Counted whole 0 whole
start = record { sum = omega arith }

-- the rest in other words
pub same_rest : {whole total rest other : ℕ} → Counted whole total rest → rest ≡ other → Counted whole total other
same_rest c e = record { sum = omega (arith, c.sum, e) }

-- one part more
pub onward : {whole total rest part n more : ℕ} → Counted whole total rest → rest ≡ part + more → n ≡ part → Counted whole (total + n) more
onward c e k = record { sum = omega (arith, c.sum, k, e) }

pub within : {whole total rest : ℕ} → Counted whole total rest → total ≤ whole
within c = omega (arith, c.sum)

-- nothing is left
pub finished : {whole total rest : ℕ} → Counted whole total rest → rest ≡ 0 → total ≡ whole
finished c e = omega (arith, c.sum, e)
