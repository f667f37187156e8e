-- The smallest number that passes, as a search over a range finds it.
use Rattle.std.proofs.Common.{ℕ, ◌≤◌, ◌<◌, ◌≡◌, Bool, true, false, Option, None, Some, sym, ap, ◌∙◌, arith}
use native.Mathlib.Decide.{dec_lt}
use mathlib.Core.Bool.{false≢true}
use Rattle.std.specs.Option.{MatchOption}
use Rattle.program.specs.Test.{least}
use Rattle.program.proofs.Test.{Least, none_passes, smallest, least_is, none_least}

pub least_found : (n : ℕ) (f : ℕ → Bool) (r : Option ℕ)
    → MatchOption r ((k : ℕ) → 0 ≤ k → k < n → f k ≡ false) (λ i. (0 ≤ i) × (i < n) × (f i ≡ true) × ((k : ℕ) → 0 ≤ k → k < i → f k ≡ false))
    → r ≡ least n f
least_found n f None h = sym (none_least n f λ i l. h i (omega arith) l)
least_found n f (Some i) (low, l, t, before) = go (least n f) (least_is n f)
  where
    go : (o : Option ℕ) → Least n f o → Some i ≡ o
    go None (none_passes h) = absurd (false≢true (sym (h i l) ∙ t))
    go (Some j) (smallest m u h) =
        elim (dec_lt i j) [
          | yes k ↦ absurd (false≢true (sym (h i k) ∙ t))
          | no g ↦ elim (dec_lt j i) [ yes k ↦ absurd (false≢true (sym (before j (omega arith) k) ∙ u)) | no d ↦ (let e : i ≡ j = omega arith in ap (λ k. Some k) e) ]
        ]
