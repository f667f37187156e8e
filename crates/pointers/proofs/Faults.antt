-- What makes a row's pointers wrong: rows that it may not point at, rows pointed at earlier, and being lost.
use Prim.Native.Nat.{ℕ, ◌+◌, ◌<◌}
use native.Mathlib.Omega.{arith}
use mathlib.Core.Bool.{Bool, true, false, not, ◌&&◌, ◌||◌, or-false, or_assoc, false≢true}
use mathlib.Core.List.{List, [], ◌∷◌, ◌++◌}
use lib.ListN.{length, get_or, take, drop, take-append-drop}
use mathlib.Core.Path.{◌≡◌, refl, sym, ap, ◌∙◌}
use lib.Dec.{ltb}
use Rattle.std.proofs.lemmas.List.{take_more}
use Rattle.program.specs.Each.{collect, elem}
use Rattle.program.specs.Program.{pointers}
use Rattle.program.proofs.Test.{or_neither}
use Rattle.program.proofs.Each.{collect-append, elem-append}
use Rattle.format.specs.Text.{Bytes}
use Rattle.format.specs.Structure.{wrong_pointers, pointer_fault, bound_earlier}
use Rattle.store.specs.Rows.{store_row, store_program}
use Rattle.store.proofs.Laws.{program_length, row_at_program}
use Rattle.seen.specs.Seen.{Marks, Adds}
use Rattle.seen.proofs.Smallest.{rows_before, again_row}
use Rattle.pointers.specs.Strays.{stray, strays}

-- ---- rows that a row may not point at

module _ (n r : ℕ) where
  pub strays_none : false ≡ strays n r []
  unfolding strays
  strays_none = refl

  at_end : (xs : List ℕ) (t : ℕ) → strays n r (xs ++ (t ∷ [])) ≡ (strays n r xs || stray n r t)
  unfolding strays
  at_end [] t = or-false (stray n r t)
  at_end (x ∷ xs) t = rw (at_end xs t) (sym (or_assoc (stray n r x) (strays n r xs) (stray n r t)))

  -- one row more of a list
  pub strays_more : (ts : List ℕ) (i : ℕ) {b c : Bool} → i < length ts → b ≡ strays n r (take i ts) → c ≡ stray n r (get_or ts i 0) → (b || c) ≡ strays n r (take (i + 1) ts)
  strays_more ts i l e q = rw (e, q, take_more ts i 0 l) (sym (at_end (take i ts) (get_or ts i 0)))

-- ---- a row with a fault

wrong_parts : (n r : ℕ) (earlier ts : List ℕ) → wrong_pointers n r earlier ts ≡ (bound_earlier earlier ts || strays n r ts)
unfolding wrong_pointers bound_earlier strays
wrong_parts n r earlier [] = refl
wrong_parts n r earlier (t ∷ ts) =
    rw (wrong_parts n r (t ∷ earlier) ts) (swapped (stray n r t) (elem t earlier) (bound_earlier (t ∷ earlier) ts) (strays n r ts))
  where
    swapped : (a b c d : Bool) → (a || b || (c || d)) ≡ (b || c || (a || d))
    swapped true true c d = refl
    swapped true false true d = refl
    swapped true false false d = refl
    swapped false true c d = refl
    swapped false false c d = refl

module _ (n : ℕ) (s : Bytes) (r : ℕ) (h : r < n) where
  pointer_fault_is : pointer_fault (store_program n s) r
      ≡ (bound_earlier (collect pointers (store_program r s)) (pointers (store_row s r)) || strays n r (pointers (store_row s r)) || (ltb 0 r && not (elem r (collect pointers (store_program n s)))))
  unfolding pointer_fault
  pointer_fault_is = rw (rows_before n r s (omega arith), row_at_program n s r h, program_length n s, wrong_parts)

  -- a row that an earlier row points at is not lost
  earlier_found : (ltb 0 r && not (elem r (collect pointers (store_program r s)))) ≡ false → (ltb 0 r && not (elem r (collect pointers (store_program n s)))) ≡ false
  earlier_found e = rw more (go (ltb 0 r) (elem r (collect pointers (store_program r s))) (elem r (collect pointers (drop r (store_program n s)))) e)
    where
      more : elem r (collect pointers (store_program n s)) ≡ (elem r (collect pointers (store_program r s)) || elem r (collect pointers (drop r (store_program n s))))
      more =
          ap (λ p. elem r (collect pointers p)) (sym (take-append-drop r (store_program n s)))
          ∙ ap (λ p. elem r (collect pointers (p ++ drop r (store_program n s)))) (rows_before n r s (omega arith))
          ∙ rw (collect-append, elem-append)

      go : (a b c : Bool) → (a && not b) ≡ false → (a && not (b || c)) ≡ false
      go true true c q = refl
      go true false c q = absurd (false≢true (sym q))
      go false b c q = refl

  -- the same by what the loop has at the row: what was seen before it and with it
  module _ (a b : Bytes) (ns : List ℕ) {again : Bool} (adds : Adds a ns b again) (e : ns ≡ pointers (store_row s r)) (m : Marks (collect pointers (store_program r s)) a) {stray : Bool} (p : stray ≡ strays n r ns) where
    pub pointer_row : {lost : Bool} → lost ≡ (ltb 0 r && not (elem r (collect pointers (store_program n s)))) → (again || stray || lost) ≡ pointer_fault (store_program n s) r
    pointer_row q = rw (p, q, e, again_row pointers r s a b ns adds e m) (sym pointer_fault_is)

    pub row_amiss : {lost : Bool} → lost ≡ (ltb 0 r && not (elem r (collect pointers (store_program n s)))) → (again || stray || lost) ≡ true → pointer_fault (store_program n s) r ≡ true
    row_amiss q f = sym (pointer_row q) ∙ f

    -- in order: nothing is wrong where the row is pointed at from an earlier row
    pub row_in_order : {lost : Bool} → lost ≡ (ltb 0 r && not (elem r (collect pointers (store_program r s)))) → (again || stray || lost) ≡ false → pointer_fault (store_program n s) r ≡ false
    row_in_order {lost} q f =
        let (found, here) = or_neither (again || stray) lost f in
        let (none, near) = or_neither again stray found in
        sym (pointer_row refl) ∙ rw (none, near) (earlier_found (sym q ∙ here))
