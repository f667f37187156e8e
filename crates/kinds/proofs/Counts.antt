-- The table of how many numbers each form holds is the definition's.
use Prim.Native.Nat.{ℕ, ◌<◌, ◌≤◌}
use native.Mathlib.Omega.{arith}
use native.Mathlib.Decide.{dec_lt}
use mathlib.Core.List.{List, [], ◌∷◌}
use mathlib.Core.Path.{◌≡◌, refl}
use lib.ListN.{get_or}
use lib.Dec.{eqb, leb}
use borrow.Author.Tests.{eqb-true, leb-true, ne_eqb, lt-ltb, le-ltb}
use Rattle.program.specs.Test.{all}
use Rattle.program.proofs.Test.{all_elim}
use Rattle.format.specs.Forms.{arity}
use Rattle.kinds.specs.Kinds.{form_place}

abbrev counts : List ℕ
counts = 0 ∷ 0 ∷ 2 ∷ 1 ∷ 2 ∷ 1 ∷ 1 ∷ 3 ∷ 1 ∷ 1 ∷ 1 ∷ 1 ∷ 5 ∷ 2 ∷ []

-- past the last kind, as apply
pub place_past : (k : ℕ) → 16 ≤ k → form_place k ≡ 13
unfolding form_place
place_past k h = rw (le-ltb k 2 (omega arith), lt-ltb 15 k (omega arith))

arity_past : (k : ℕ) → 16 ≤ k → arity k ≡ 2
unfolding arity
arity_past k h =
    rw (
      ne_eqb k 2 (omega arith),
      ne_eqb k 3 (omega arith),
      ne_eqb k 4 (omega arith),
      ne_eqb k 5 (omega arith),
      ne_eqb k 6 (omega arith),
      ne_eqb k 7 (omega arith),
      ne_eqb k 8 (omega arith),
      ne_eqb k 9 (omega arith),
      ne_eqb k 10 (omega arith),
      ne_eqb k 11 (omega arith),
      ne_eqb k 12 (omega arith),
      ne_eqb k 13 (omega arith),
      ne_eqb k 14 (omega arith),
    )

pub count_is : (k : ℕ) → get_or counts (form_place k) 0 ≡ arity k
unfolding all form_place arity
count_is k =
    elim (dec_lt k 16) [
      | yes l ↦ eqb-true (get_or counts (form_place k) 0) (arity k) (all_elim 16 (λ k. eqb (get_or counts (form_place k) 0) (arity k)) refl k l)
      | no g ↦ rw (place_past k (omega arith), arity_past k (omega arith))
    ]

pub place_below : (k : ℕ) → form_place k < 14
unfolding form_place
place_below k =
    elim (dec_lt k 2) [
      | yes l ↦ rw (lt-ltb k 2 l) (omega arith)
      | no g ↦ elim (dec_lt 15 k) [
        | yes l ↦ rw (le-ltb k 2 (omega arith), lt-ltb 15 k l) (omega arith)
        | no m ↦ rw (le-ltb k 2 (omega arith), le-ltb 15 k (omega arith)) (omega arith)
      ]
    ]

-- no form holds more than five numbers
pub arity_small : (k : ℕ) → arity k ≤ 5
unfolding all arity
arity_small k =
    elim (dec_lt k 16) [
      | yes l ↦ leb-true (arity k) 5 (all_elim 16 (λ k. leb (arity k) 5) refl k l)
      | no g ↦ rw (arity_past k (omega arith)) (omega arith)
    ]
