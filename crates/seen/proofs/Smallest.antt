-- What was seen in the rows before a row, and the smallest row with a fault.
use Prim.Native.Nat.{ℕ, zero, suc, ◌+◌, ◌<◌, ◌≤◌}
use native.Mathlib.Omega.{arith}
use native.Mathlib.Numerals.{add-one}
use mathlib.Core.Bool.{Bool, true, false, false≢true}
use mathlib.Core.List.{List, ◌∷◌, ◌++◌, append-nil}
use Rattle.std.specs.Prelude.{Option, None as none, Some as some}
use mathlib.Core.Path.{◌≡◌, refl, sym, ap, ◌∙◌}
use lib.ListN.{take, replicate}
use Rattle.program.specs.declared.Row.{Row}
use Rattle.program.specs.Test.{least}
use Rattle.program.specs.Each.{collect}
use Rattle.program.proofs.Test.{Least, none_passes, smallest, least_is, none_least}
use Rattle.program.proofs.Each.{collect-append}
use Rattle.format.specs.Text.{Bytes}
use Rattle.format.specs.Structure.{bound_earlier}
use Rattle.calls.specs.Layout.{counting}
use Rattle.store.specs.Rows.{store_row, store_program}
use Rattle.store.proofs.Laws.{program_snoc}
use Rattle.seen.specs.Seen.{number_count, Marks, Adds}
use Rattle.seen.proofs.Marking.{marks_none}

-- ---- the rows before a row

take_counting : {A : Type 0} (n i r : ℕ) (f : ℕ → A) → r ≤ n → take r (counting n i f) ≡ counting r i f
unfolding counting
take_counting n i zero f h = refl
take_counting zero i (suc r) f h = absurd (omega arith)
take_counting (suc n) i (suc r) f h = ap (λ xs. f i ∷ xs) (take_counting n (suc i) r f (omega arith))

pub rows_before : (n r : ℕ) (s : Bytes) → r ≤ n → take r (store_program n s) ≡ store_program r s
unfolding store_program
rows_before n r s h = take_counting n 0 r (store_row s) h

module _ (f : Row → List ℕ) where
  -- before the first row
  pub marks_first : (s marks : Bytes) → marks ≡ replicate number_count 0 → Marks (collect f (store_program 0 s)) marks
  unfolding collect store_program counting
  marks_first s = marks_none

  collect_row : (r : ℕ) (s : Bytes) → collect f (store_program (r + 1) s) ≡ collect f (store_program r s) ++ f (store_row s r)
  unfolding collect
  collect_row r s = rw (add-one, program_snoc, collect-append) (ap (λ l. collect f (store_program r s) ++ l) (append-nil (f (store_row s r))))

  -- the marks of the first rows, where those of one row more are added
  pub marks_row : (r : ℕ) (s a b : Bytes) (ns : List ℕ) {again : Bool} → Adds a ns b again → ns ≡ f (store_row s r)
      → Marks (collect f (store_program r s)) a → Marks (collect f (store_program (r + 1) s)) b
  marks_row r s a b ns h e m = rw (collect_row r s, ← e) (h.marks _ m)

  -- whether one of a row's numbers was seen again
  pub again_row : (r : ℕ) (s a b : Bytes) (ns : List ℕ) {again : Bool} → Adds a ns b again → ns ≡ f (store_row s r)
      → Marks (collect f (store_program r s)) a → again ≡ bound_earlier (collect f (store_program r s)) (f (store_row s r))
  again_row r s a b ns h e m = rw (← e) (h.again _ m)

-- ---- the smallest row

-- no number below r passes
abbrev pub Passed : (ℕ → Bool) → ℕ → Type 0
Passed f r = (j : ℕ) → j < r → f j ≡ false

pub first_row : (n : ℕ) (f : ℕ → Bool) (r : ℕ) → r < n → f r ≡ true → Passed f r → some r ≡ least n f
first_row n f r l t h = go (least n f) (least_is n f)
  where
    go : (o : Option ℕ) → Least n f o → some r ≡ o
    go none (none_passes k) = absurd (false≢true (sym (k r l) ∙ t))
    go (some i) (smallest m u k) =
        let a : i < r → ⊥ = λ l. false≢true (sym (h i l) ∙ u) in
        let b : r < i → ⊥ = λ l. false≢true (sym (k r l) ∙ t) in
        ap some (omega arith)

pub no_row : (n r : ℕ) (f : ℕ → Bool) → n ≤ r → Passed f r → least n f ≡ none
no_row n r f l h = none_least n f λ i m. h i (omega arith)
