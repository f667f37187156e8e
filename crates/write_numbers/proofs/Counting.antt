-- The digit of a place, counted off what the places above it leave. Stated over the place.
use Prim.Native.Nat.{ℕ, ◌+◌, ◌*◌, ◌/◌, ◌%◌, ◌<◌}
use mathlib.Core.Path.{◌≡◌, sym, ap, ◌∙◌}
use native.Mathlib.Nat.{mod-lt, mod-eq_of_lt}
use native.Mathlib.Omega.{arith}
use mathlib.Core.List.{[], ◌∷◌}
use borrow.Author.Tests.{lt-ltb}
use lib.Arith.{digits_div, digits_mod, mod-mul}
use Rattle.format.specs.Text.{place, digits}
use Rattle.write_numbers.specs.Counting.{CountedOff}

-- the count is the digit, and the rest is what the place leaves for those below
module _ (n : ℕ) {high p count rest : ℕ} (e : high ≡ n % (10 * p)) (c : CountedOff high p count rest) where
  positive : 0 < p
  positive = omega (arith, c.below)

  whole_is : count * p + rest ≡ n / p % 10 * p + n % p
  whole_is = sym c.whole ∙ e ∙ mod-mul n (omega arith) positive

  pub digit_is : count ≡ n / p % 10
  digit_is = sym (digits_div count c.below) ∙ ap (λ (x : ℕ). x / p) whole_is ∙ digits_div (n / p % 10) (mod-lt n positive)

  pub rest_is : rest ≡ n % p
  rest_is = sym (digits_mod count c.below) ∙ ap (λ (x : ℕ). x % p) whole_is ∙ digits_mod (n / p % 10) (mod-lt n positive)

-- a place that the number does not reach leaves all
pub rest_all : (n p : ℕ) {high : ℕ} → high ≡ n % (10 * p) → n < p → high ≡ n % p
rest_all n p e h = e ∙ mod-eq_of_lt {m = 10 * p} (omega arith) ∙ sym (mod-eq_of_lt h)

-- a number of one digit
pub one_digit : (n : ℕ) → n < 10 → digits n ≡ (48 + n) ∷ []
unfolding digits place
one_digit n h = rw (lt-ltb n 10000 (omega arith), lt-ltb n 1000 (omega arith), lt-ltb n 100 (omega arith), lt-ltb n 10 h, mod-eq_of_lt h)
