-- Bytes tested from a position on.
use Prim.Native.Nat.{ℕ, zero, suc, ◌+◌, ◌≤◌, ◌<◌, max}
use native.Mathlib.Omega.{arith}
use native.Mathlib.Numerals.{add-one}
use mathlib.Core.Bool.{Bool, true, false, ◌&&◌, and-true, and_assoc}
use mathlib.Core.List.{[], ◌∷◌}
use mathlib.Core.Path.{◌≡◌, refl, sym, ◌∙◌}
use lib.ListN.{length, get_or, drop}
use lib.Seq.{drop-cons, drop-length}
use lib.Dec.{ltb, eqb}
use borrow.Author.Tests.{lt-ltb, le-ltb, ltb-true, ltb-false, ne_eqb}
use Rattle.program.specs.Each.{every}
use Rattle.format.specs.Text.{Bytes}

-- every byte is below a limit
abbrev pub Below : ℕ → Bytes → Bool
Below limit bs = every (λ x. ltb x limit) bs

-- the larger of two numbers is below a limit if both are
both_below : (m x limit : ℕ) → ltb (max m x) limit ≡ ltb m limit && ltb x limit
both_below m x limit = go (ltb m limit) (ltb x limit) refl refl
  where
    go : (a b : Bool) → ltb m limit ≡ a → ltb x limit ≡ b → ltb (max m x) limit ≡ a && b
    go true true e q = lt-ltb (max m x) limit (omega (arith, ltb-true m limit e, ltb-true x limit q))
    go true false e q = le-ltb (max m x) limit (omega (arith, ltb-false x limit q))
    go false b e q = le-ltb (max m x) limit (omega (arith, ltb-false m limit e))

-- all bytes are below the limit exactly if the largest before position i and those from there on are
module _ (bs : Bytes) (limit i : ℕ) where
  pub below_goes : (most : ℕ) {next : ℕ} → i < length bs → next ≡ max most (get_or bs i 0)
      → ltb next limit && Below limit (drop (i + 1) bs) ≡ ltb most limit && Below limit (drop i bs)
  unfolding every
  below_goes most l q = rw (q, both_below most (get_or bs i 0) limit, drop-cons bs i 0 l, add-one i) (and_assoc (ltb most limit) (ltb (get_or bs i 0) limit) (Below limit (drop (suc i) bs)))

  pub below_ends : (most : ℕ) → length bs ≤ i → i ≤ length bs → ltb most limit && Below limit (drop i bs) ≡ ltb most limit
  unfolding every
  below_ends most l m = let q : i ≡ length bs = omega arith in rw (q, drop-length bs) (and-true (ltb most limit))

-- no byte is below 0
pub below_none : (bs : Bytes) (limit : ℕ) → limit ≡ 0 → eqb (length bs) 0 ≡ Below limit bs
unfolding every
below_none [] limit e = refl
below_none (b ∷ bs) limit e = rw (e, le-ltb b 0 (omega arith), ne_eqb (length (b ∷ bs)) 0 (λ q. omega (arith, q)))

-- a byte is 0 exactly if it is below 1
pub below_zero : (bs : Bytes) → every (λ b. eqb b 0) bs ≡ Below 1 bs
unfolding every
below_zero [] = refl
below_zero (b ∷ bs) = rw (below_zero bs, zero_test b)
  where
    zero_test : (n : ℕ) → eqb n 0 ≡ ltb n 1
    zero_test zero = refl
    zero_test (suc n) = ne_eqb (suc n) 0 (λ e. omega (arith, e)) ∙ sym (le-ltb (suc n) 1 (omega arith))
