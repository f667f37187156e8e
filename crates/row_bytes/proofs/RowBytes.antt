-- The test of a row's bytes, kind by kind.
use Prim.Native.Nat.{ℕ, zero, suc, ◌-◌, ◌≤◌}
use native.Mathlib.Omega.{arith}
use native.Mathlib.Decide.{dec_lt}
use mathlib.Core.Bool.{Bool, true, false, ◌&&◌}
use mathlib.Core.List.{[], ◌∷◌, ◌++◌}
use mathlib.Core.Path.{◌≡◌, refl, sym, ap, ◌∙◌}
use lib.ListN.{length, get_or, take, drop, get_or-eq_default}
use lib.Dec.{ltb, leb, eqb}
use borrow.Author.Tests.{lt-ltb, le-ltb, leb-true, eq-eqb, ne_eqb}
use Rattle.program.specs.Test.{pick, all}
use Rattle.program.proofs.Test.{all_elim}
use Rattle.program.specs.Each.{every}
use Rattle.format.specs.Text.{Bytes}
use Rattle.format.specs.Limits.{row_limit}
use Rattle.format.specs.Forms.{form_code, form_of}
use Rattle.format.specs.Print.{form_numbers}
use Rattle.format.specs.Read.{row_numbers}
use Rattle.calls.specs.Layout.{row_size, row_of, row_bytes, padded, same}
use Rattle.calls.specs.Canonical.{row_sound}
use Rattle.row_bytes.specs.Rows.{used, used_bytes}
use Rattle.byte_tests.proofs.Below.{Below}
use Rattle.store.proofs.Laws.{rest_all}

eqb_same : (n : ℕ) → eqb n n ≡ true
eqb_same n = eq-eqb n n refl

zero_below : (n : ℕ) → eqb 0 n ≡ ltb n 1
zero_below zero = refl
zero_below (suc n) = ne_eqb 0 (suc n) (λ e. omega (arith, e)) ∙ sym (le-ltb (suc n) 1 (omega arith))

and_turn : (x y t : Bool) → (x && (y && t)) ≡ (y && (x && t))
and_turn true true t = refl
and_turn true false t = refl
and_turn false true t = refl
and_turn false false t = refl

-- a row's rest stands last in its text and before the form's numbers in its bytes
last_first : (limit y : ℕ) (xs : Bytes) → Below limit (xs ++ (y ∷ [])) ≡ Below limit (y ∷ xs)
unfolding every
last_first limit y [] = refl
last_first limit y (x ∷ xs) = ap (λ t. ltb x limit && t) (last_first limit y xs) ∙ and_turn (ltb x limit) (ltb y limit) (Below limit xs)

-- the test in two parts: what the row does not use is 0, and its numbers are below the limit
abbrev Parts : ℕ → Bytes → Bool
Parts n bs = pick (eqb n 0) false (Below 1 (drop n bs) && Below row_limit (take (n - 1) (drop 1 bs)))

eight : (k a b c d e f g : ℕ) → let bs = k ∷ a ∷ b ∷ c ∷ d ∷ e ∷ f ∷ g ∷ [] in row_sound bs ≡ Parts (used_bytes k) bs
unfolding row_sound row_of row_bytes form_of form_code form_numbers padded same row_numbers every used_bytes
eight zero a b c d e f g = refl
eight (suc zero) a b c d e f g = simp (eqb_same, zero_below)
eight (suc (suc zero)) a b c d e f g = simp (eqb_same, zero_below)
eight (suc (suc (suc zero))) a b c d e f g = simp (eqb_same, zero_below)
eight (suc (suc (suc (suc zero)))) a b c d e f g = simp (eqb_same, zero_below) (ap (λ t. Below 1 (e ∷ f ∷ g ∷ []) && (ltb a row_limit && t)) (last_first row_limit b (c ∷ d ∷ [])))
eight (suc (suc (suc (suc (suc zero))))) a b c d e f g = simp (eqb_same, zero_below) (ap (λ t. Below 1 (d ∷ e ∷ f ∷ g ∷ []) && (ltb a row_limit && t)) (last_first row_limit b (c ∷ [])))
eight (suc (suc (suc (suc (suc (suc zero)))))) a b c d e f g = simp (eqb_same, zero_below) (ap (λ t. Below 1 (e ∷ f ∷ g ∷ []) && (ltb a row_limit && t)) (last_first row_limit b (c ∷ d ∷ [])))
eight (suc (suc (suc (suc (suc (suc (suc zero))))))) a b c d e f g = simp (eqb_same, zero_below) (ap (λ t. Below 1 (d ∷ e ∷ f ∷ g ∷ []) && (ltb a row_limit && t)) (last_first row_limit b (c ∷ [])))
eight (suc (suc (suc (suc (suc (suc (suc (suc zero)))))))) a b c d e f g =
    simp (eqb_same, zero_below) (ap (λ t. Below 1 (d ∷ e ∷ f ∷ g ∷ []) && (ltb a row_limit && t)) (last_first row_limit b (c ∷ [])))
eight (suc (suc (suc (suc (suc (suc (suc (suc (suc zero))))))))) a b c d e f g =
    simp (eqb_same, zero_below) (ap (λ t. Below 1 (f ∷ g ∷ []) && (ltb a row_limit && t)) (last_first row_limit b (c ∷ d ∷ e ∷ [])))
eight (suc (suc (suc (suc (suc (suc (suc (suc (suc (suc zero)))))))))) a b c d e f g =
    simp (eqb_same, zero_below) (ap (λ t. Below 1 (d ∷ e ∷ f ∷ g ∷ []) && (ltb a row_limit && t)) (last_first row_limit b (c ∷ [])))
eight (suc (suc (suc (suc (suc (suc (suc (suc (suc (suc (suc zero))))))))))) a b c d e f g =
    simp (eqb_same, zero_below) (ap (λ t. Below 1 (d ∷ e ∷ f ∷ g ∷ []) && (ltb a row_limit && t)) (last_first row_limit b (c ∷ [])))
eight (suc (suc (suc (suc (suc (suc (suc (suc (suc (suc (suc (suc zero)))))))))))) a b c d e f g =
    simp (eqb_same, zero_below) (ap (λ t. Below 1 (d ∷ e ∷ f ∷ g ∷ []) && (ltb a row_limit && t)) (last_first row_limit b (c ∷ [])))
eight (suc (suc (suc (suc (suc (suc (suc (suc (suc (suc (suc (suc (suc zero))))))))))))) a b c d e f g =
    simp (eqb_same, zero_below) (ap (λ t. Below 1 (d ∷ e ∷ f ∷ g ∷ []) && (ltb a row_limit && t)) (last_first row_limit b (c ∷ [])))
eight (suc (suc (suc (suc (suc (suc (suc (suc (suc (suc (suc (suc (suc (suc zero)))))))))))))) a b c d e f g =
    simp (eqb_same, zero_below) (ap (λ t. Below 1 ([]) && (ltb a row_limit && t)) (last_first row_limit b (c ∷ d ∷ e ∷ f ∷ g ∷ [])))
eight (suc (suc (suc (suc (suc (suc (suc (suc (suc (suc (suc (suc (suc (suc (suc zero))))))))))))))) a b c d e f g =
    simp (eqb_same, zero_below) (ap (λ t. Below 1 (e ∷ f ∷ g ∷ []) && (ltb a row_limit && t)) (last_first row_limit b (c ∷ d ∷ [])))
eight (suc (suc (suc (suc (suc (suc (suc (suc (suc (suc (suc (suc (suc (suc (suc (suc k)))))))))))))))) a b c d e f g =
    let n = suc (suc (suc (suc (suc (suc (suc (suc (suc (suc (suc (suc (suc (suc (suc (suc k))))))))))))))) in
    rw (lt-ltb 0 n (omega arith), le-ltb n 16 (omega arith))

pub row_parts : (bs : Bytes) → length bs ≡ row_size → row_sound bs ≡ Parts (used_bytes (get_or bs 0 0)) bs
row_parts [] h = absurd (omega (arith, h))
row_parts (k ∷ []) h = absurd (omega (arith, h))
row_parts (k ∷ a ∷ []) h = absurd (omega (arith, h))
row_parts (k ∷ a ∷ b ∷ []) h = absurd (omega (arith, h))
row_parts (k ∷ a ∷ b ∷ c ∷ []) h = absurd (omega (arith, h))
row_parts (k ∷ a ∷ b ∷ c ∷ d ∷ []) h = absurd (omega (arith, h))
row_parts (k ∷ a ∷ b ∷ c ∷ d ∷ e ∷ []) h = absurd (omega (arith, h))
row_parts (k ∷ a ∷ b ∷ c ∷ d ∷ e ∷ f ∷ []) h = absurd (omega (arith, h))
row_parts (k ∷ a ∷ b ∷ c ∷ d ∷ e ∷ f ∷ g ∷ []) h = eight k a b c d e f g
row_parts (k ∷ a ∷ b ∷ c ∷ d ∷ e ∷ f ∷ g ∷ x ∷ xs) h = absurd (omega (arith, h))

-- a number that is no kind uses no byte, and no kind uses more than a row has
pub no_kind : (k : ℕ) → 16 ≤ k → 0 ≡ used_bytes k
unfolding used_bytes
no_kind k h = sym (get_or-eq_default used 0 {n = k} h)

pub used_fits : (k : ℕ) → used_bytes k ≤ row_size
unfolding all used_bytes
used_fits k =
    elim (dec_lt k 16) [
      | yes l ↦ leb-true (used_bytes k) row_size (all_elim 16 (λ k. leb (used_bytes k) row_size) refl k l)
      | no g ↦ rw (← no_kind k (omega arith)) (omega arith)
    ]

-- ---- what the tests in turn say

pub row_none : (bs : Bytes) → length bs ≡ row_size → used_bytes (get_or bs 0 0) ≡ 0 → false ≡ row_sound bs
row_none bs l e = sym (row_parts bs l ∙ rw e)

pub row_unused : (bs : Bytes) (n : ℕ) → length bs ≡ row_size → n ≡ used_bytes (get_or bs 0 0) → (n ≡ 0 → ⊥) → Below 1 (take (length bs - n) (drop n bs)) ≡ false → false ≡ row_sound bs
row_unused bs n l e some z =
    let q : Below 1 (drop n bs) ≡ false = ap (Below 1) (sym (rest_all bs n)) ∙ z in
    sym (row_parts bs l ∙ rw (← e, ne_eqb n 0 some, q))

pub row_numbers_lem : (bs : Bytes) (n : ℕ) → length bs ≡ row_size → n ≡ used_bytes (get_or bs 0 0) → (n ≡ 0 → ⊥) → Below 1 (take (length bs - n) (drop n bs)) ≡ true
    → Below row_limit (take (n - 1) (drop 1 bs)) ≡ row_sound bs
row_numbers_lem bs n l e some z =
    let q : Below 1 (drop n bs) ≡ true = ap (Below 1) (sym (rest_all bs n)) ∙ z in
    sym (row_parts bs l ∙ rw (← e, ne_eqb n 0 some, q))
