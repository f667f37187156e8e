-- How many digits a number below 1,000 has.
use Prim.Native.Nat.{ℕ, ◌<◌, ◌≤◌}
use native.Mathlib.Omega.{arith}
use mathlib.Core.Path.{◌≡◌}
use lib.ListN.{length}
use borrow.Author.Tests.{lt-ltb, le-ltb}
use Rattle.format.specs.Text.{place, digits}

module _ (n : ℕ) where
  pub one_digit : n < 10 → length (digits n) ≡ 1
  unfolding digits place
  one_digit h = rw (lt-ltb n 10000 (omega arith), lt-ltb n 1000 (omega arith), lt-ltb n 100 (omega arith), lt-ltb n 10 h)

  pub two_digits : 10 ≤ n → n < 100 → length (digits n) ≡ 2
  unfolding digits place
  two_digits l h = rw (lt-ltb n 10000 (omega arith), lt-ltb n 1000 (omega arith), lt-ltb n 100 h, le-ltb n 10 l)

  pub three_digits : 100 ≤ n → n < 1000 → length (digits n) ≡ 3
  unfolding digits place
  three_digits l h = rw (lt-ltb n 10000 (omega arith), lt-ltb n 1000 h, le-ltb n 100 l, le-ltb n 10 (omega arith))
