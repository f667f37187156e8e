-- A test as a number, and a test of every number as bytes.
use Rattle.std.specs.Prelude.{ℕ, Bool, true, false, ◌≡◌}
use Rattle.format.specs.Text.{Bytes, byte_at}

-- a test as a number
abbrev pub flag : Bool → ℕ
flag true = 1
flag false = 0

-- a byte for each number: 1 where the test holds of it, else 0
pub record Tells (f : ℕ → Bool) (bs : Bytes) : Type 0 where
  pub at : (n : ℕ) → byte_at bs n ≡ flag (f n)
