-- Marking members: marks in zeros are the flags of the store.
use Prim.Native.Nat.{ℕ, zero, suc, ◌+◌}
use mathlib.Core.List.{List, [], ◌∷◌}
use mathlib.Core.Path.{◌≡◌, refl, ap, ◌∙◌}
use native.Mathlib.Omega.{arith}
use native.Mathlib.Nat.{zero-add}
use lib.ListN.{set, replicate}
use lib.Dec.{eqb}
use borrow.Author.Tests.{eq-eqb, ne_eqb}
use Rattle.program.specs.Test.{pick}
use Rattle.program.specs.Each.{elem}
use Rattle.program.proofs.Test.{pick_or}
use Rattle.format.specs.Text.{Bytes}
use Rattle.calls.specs.Layout.{member_limit, counting, flags_of}
use Rattle.calls.proofs.Codec.Sparse.{counting_same}
use Rattle.read_sets.specs.Sets.{marks}

-- ---- marks in a row of bytes that a function gives

counting_zero : (n i : ℕ) → counting n i (λ k. zero) ≡ replicate n 0
unfolding counting
counting_zero zero i = refl
counting_zero (suc n) i = rw (counting_zero n (suc i))

-- the function with 1 at a number
abbrev marked : ℕ → (ℕ → ℕ) → ℕ → ℕ
marked m f k = pick (eqb k m) 1 (f k)

set_counting : (n i m : ℕ) (f : ℕ → ℕ) → set (counting n i f) m 1 ≡ counting n i (marked (i + m) f)
unfolding counting
set_counting zero i m f = refl
set_counting (suc n) i zero f =
    rw (eq-eqb i (i + zero) (omega arith))
    (ap (λ (bs : Bytes). 1 ∷ bs) (counting_same n (suc i) f (marked (i + zero) f) λ k l m. rw (ne_eqb k (i + zero) (omega arith))))
set_counting (suc n) i (suc m) f =
    let e : i + suc m ≡ suc i + m = omega arith in
    rw (ne_eqb i (i + suc m) (omega arith), e) (ap (λ (bs : Bytes). f i ∷ bs) (set_counting n (suc i) m f))

-- marks in n bytes that a function gives
marks-counting : (n : ℕ) (ms : List ℕ) (f : ℕ → ℕ) → marks ms (counting n 0 f) ≡ counting n 0 (λ k. pick (elem k ms) 1 (f k))
unfolding marks elem
marks-counting n [] f = refl
marks-counting n (m ∷ ms) f =
    rw (set_counting n 0 m f)
    (marks-counting n ms (marked (0 + m) f) ∙ counting_same n 0 _ _ λ k l i. rw (zero-add m) (pick_or (eqb k m) (elem k ms) (f k)))

pub marks_zeros : (n : ℕ) (ms : List ℕ) → marks ms (replicate n 0) ≡ counting n 0 (λ k. pick (elem k ms) 1 0)
marks_zeros n ms = rw (← (counting_zero n 0)) (marks-counting n ms (λ k. 0))

-- marks in zeros are the flags of the store, whatever the members
pub marks_flags : (ms : List ℕ) → marks ms (replicate member_limit 0) ≡ flags_of ms
unfolding flags_of
marks_flags ms = marks_zeros member_limit ms
