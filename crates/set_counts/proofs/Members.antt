-- The members of a set from one of their bytes on, and whether there is one.
use Prim.Native.Nat.{ℕ, suc, ◌+◌, ◌<◌, ◌≤◌, max}
use native.Mathlib.Numerals.{add-one}
use native.Mathlib.Omega.{arith}
use native.Mathlib.Decide.{ℕ_discrete}
use mathlib.Core.Bool.{Bool, false, ◌||◌, or-false, or-true}
use mathlib.Core.List.{List, [], ◌∷◌, ◌++◌}
use mathlib.Core.Path.{◌≡◌, refl, sym, ap, ◌∙◌}
use lib.Dec.{ltb, eqb}
use lib.ListN.{length, get_or, take, drop, length-drop, drop_of_length-le, take-append-drop}
use lib.Seq.{drop-cons, drop-drop, length-take-le}
use borrow.Author.Tests.{eq-eqb, ne_eqb, lt-ltb}
use Rattle.format.specs.Text.{Bytes}
use Rattle.format.specs.Read.{present}
use Rattle.format.proofs.Rising.{present_cases}
use Rattle.calls.specs.Layout.{members_from}
use Rattle.calls.proofs.Codec.Sparse.{either}

module _ (flags : Bytes) (m : ℕ) (inside : m < length flags) where
  pub skip : get_or flags m 0 ≡ 0 → members_from m (drop m flags) ≡ members_from (m + 1) (drop (m + 1) flags)
  unfolding members_from
  skip e = rw (add-one, drop-cons flags m 0 inside, members_from) (simp (eq-eqb _ _ e))

  pub keep : (get_or flags m 0 ≡ 0 → ⊥) → members_from m (drop m flags) ≡ m ∷ members_from (m + 1) (drop (m + 1) flags)
  unfolding members_from
  keep e = rw (add-one, drop-cons flags m 0 inside, members_from) (simp (ne_eqb _ _ e))

pub none_left : (flags : Bytes) (m : ℕ) → length flags ≤ m → members_from m (drop m flags) ≡ []
unfolding members_from
none_left flags m h = rw (drop_of_length-le flags h)

-- ---- members one after the other

-- their number, wherever they begin
pub same_count : (m n : ℕ) (bs : Bytes) → length (members_from m bs) ≡ length (members_from n bs)
unfolding members_from
same_count m n [] = refl
same_count m n (b ∷ bs) =
    let more = same_count (suc m) (suc n) bs in
    either (eqb b 0) (λ e. rw (e, members_from) more) (λ e. rw (e, members_from) (ap suc more))

pub members_append : (m : ℕ) (xs ys : Bytes) → members_from m (xs ++ ys) ≡ members_from m xs ++ members_from (m + length xs) ys
unfolding members_from
members_append m [] ys = let q : m + 0 ≡ m = omega arith in rw q
members_append m (x ∷ xs) ys =
    let q : m + suc (length xs) ≡ suc m + length xs = omega arith in
    let more = members_append (suc m) xs ys in
    either (eqb x 0) (λ e. rw (e, members_from, q) more) (λ e. rw (e, members_from, q) (ap (λ (l : List ℕ). m ∷ l) more))

-- a run of bytes that mark no member
pub skip_run : (flags : Bytes) (m k : ℕ) → m + k ≤ length flags → present (members_from 0 (take k (drop m flags))) ≡ false
    → members_from m (drop m flags) ≡ members_from (m + k) (drop (m + k) flags)
skip_run flags m k l e =
    let run = take k (drop m flags) in
    let size : length run ≡ k = length-take-le k (drop m flags) (simp length-drop (omega arith)) in
    let none : members_from m run ≡ [] = no_members (members_from m run) (same_count m 0 run ∙ ap length (present_cases (members_from 0 run) e)) in
    ap (members_from m) (sym (take-append-drop k (drop m flags))) ∙ members_append m run (drop k (drop m flags)) ∙ rw (none, size, drop-drop k m flags)
  where
    no_members : (ms : List ℕ) → length ms ≡ 0 → ms ≡ []
    no_members [] h = refl
    no_members (x ∷ xs) h = absurd (omega (arith, h))

-- ---- whether there is a member

-- one was found so far, or there is one from byte i on
unfoldable pub found_from : ℕ → ℕ → Bytes → Bool
found_from found i flags = ltb 0 found || present (members_from i (drop i flags))

pub found_start : (flags : Bytes) → found_from 0 0 flags ≡ present (members_from 0 flags)
unfolding found_from
found_start flags = refl

pub found_more : (found i : ℕ) (flags : Bytes) {next : ℕ} → i < length flags → next ≡ max found (get_or flags i 0) → found_from next (i + 1) flags ≡ found_from found i flags
unfolding found_from present
found_more found i flags l e =
    elim (ℕ_discrete (get_or flags i 0) 0) [
      | yes z ↦ let q : max found (get_or flags i 0) ≡ found = omega arith in rw (e, q, skip flags i l z)
      | no n ↦ rw (e, lt-ltb 0 (max found (get_or flags i 0)) (omega arith), keep flags i l n) (sym (or-true (ltb 0 found)))
    ]

pub found_end : (found i : ℕ) (flags : Bytes) → length flags ≤ i → found_from found i flags ≡ ltb 0 found
unfolding found_from present
found_end found i flags l = rw (none_left flags i l) (or-false (ltb 0 found))
