-- Sets of rows as bytes: a row is in the set if its byte is not 0.
use Rattle.std.specs.Prelude.{ℕ, ◌≤◌, ◌<◌, Bool, false, ◌&&◌, ◌≡◌, length, ltb}
use Rattle.program.specs.Test.{any}
use Rattle.format.specs.Limits.{row_limit}
use Rattle.format.specs.Text.{Bytes, byte_at}

unfoldable pub on : Bytes → ℕ → Bool
on marks r = ltb 0 (byte_at marks r)

-- the set of rows that the bytes mark, of the first n rows
unfoldable pub marked : ℕ → Bytes → ℕ → Bool
marked n marks r = ltb r n && on marks r

-- the bytes mark, of the first n rows, those of which the test holds
pub record Marked (n : ℕ) (f : ℕ → Bool) (marks : Bytes) : Type 0 where
  pub size : row_limit ≤ length marks
  pub rows : (r : ℕ) → r < n → on marks r ≡ f r

-- one of the first n rows is in all three sets
unfoldable pub three_meet : ℕ → Bytes → Bytes → Bytes → Bool
three_meet n a b c = any n λ i. on a i && (on b i && on c i)

-- no row is marked
unfoldable pub NoneMarked : Bytes → Type 0
NoneMarked marks = (r : ℕ) → r < row_limit → on marks r ≡ false
