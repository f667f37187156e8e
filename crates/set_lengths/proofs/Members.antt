-- The length of the members of a set, by how many of them have more than one digit, and more than two.
use Prim.Native.Nat.{ℕ, zero, suc, ◌+◌, ◌-◌, ◌*◌, ◌<◌, ◌≤◌}
use native.Mathlib.Omega.{arith}
use native.Mathlib.Decide.{ℕ_discrete}
use mathlib.Core.List.{List, [], ◌∷◌, ◌++◌}
use mathlib.Core.Path.{◌≡◌, refl, sym, ap, ◌∙◌}
use lib.ListN.{length, get_or, take, drop, length-append, length-drop, take-append-drop}
use lib.Seq.{take_all, drop-drop, length-take-le}
use lib.Dec.{eqb}
use borrow.Author.Tests.{eq-eqb, ne_eqb}
use Rattle.format.specs.Text.{Bytes, ascii}
use Rattle.format.specs.Print.{member_text, members_text}
use Rattle.calls.specs.Layout.{member_limit, members_from}
use Rattle.calls.proofs.Codec.Sparse.{either}
use Rattle.number_lengths.proofs.Digits.{one_digit, two_digits, three_digits}
use Rattle.set_counts.proofs.Members.{skip, keep, none_left, same_count, members_append}
use Rattle.set_lengths.specs.Lengths.{is_member}

-- ---- how many members there are

abbrev pub count_from : ℕ → Bytes → ℕ
count_from i bs = length (members_from i (drop i bs))

pub count_next : (bs : Bytes) (i : ℕ) → i < length bs → count_from i bs ≡ is_member (get_or bs i 0) + count_from (i + 1) bs
count_next bs i h =
    elim (ℕ_discrete (get_or bs i 0) 0) [
      | yes e ↦ rw (skip bs i h e, eq-eqb _ _ e) (omega arith)
      | no e ↦ rw (keep bs i h e, ne_eqb _ _ e) (omega arith)
    ]

pub count_end : (bs : Bytes) (i : ℕ) → length bs ≤ i → count_from i bs ≡ 0
count_end bs i h = rw (none_left bs i h)

-- ---- members one after the other

text_append : (xs ys : List ℕ) → length (members_text (xs ++ ys)) + 1 ≡ length (members_text xs) + length (members_text ys)
unfolding members_text ascii
text_append [] ys = omega arith
text_append (x ∷ xs) ys = simp length-append (omega (arith, text_append xs ys))

-- members that take as many bytes each
module _ (w : ℕ) where
  alike : (m : ℕ) (bs : Bytes) → ((k : ℕ) → m ≤ k → k < m + length bs → length (member_text k) ≡ w)
      → length (members_text (members_from m bs)) ≡ length (members_from m bs) * (w + 1) + 1
  unfolding members_from members_text ascii
  alike m [] h = omega arith
  alike m (b ∷ bs) h =
      let more = alike (suc m) bs (λ k l u. h k (omega arith) (omega arith)) in
      let here = h m (omega arith) (omega arith) in
      either (eqb b 0) (λ e. rw (e, members_from) more) (λ e. rw (e, members_from) (simp length-append (omega (arith, more, here))))

-- how many bytes a member takes
member_one : (k : ℕ) → k < 11 → length (member_text k) ≡ 1
unfolding member_text ascii
member_one zero h = refl
member_one (suc r) h = one_digit r (omega arith)

member_two : (k : ℕ) → 11 ≤ k → k < 101 → length (member_text k) ≡ 2
unfolding member_text ascii
member_two zero l h = absurd (omega arith)
member_two (suc r) l h = two_digits r (omega arith) (omega arith)

member_three : (k : ℕ) → 101 ≤ k → k < 1001 → length (member_text k) ≡ 3
unfolding member_text ascii
member_three zero l h = absurd (omega arith)
member_three (suc r) l h = three_digits r (omega arith) (omega arith)

-- ---- the members of a set, as the code counts them

abbrev pub count : Bytes → ℕ
count bs = length (members_from 0 bs)

module _ (bs : Bytes) (size : length bs ≡ member_limit) where
  -- the members from a on, as the code cuts them out
  abbrev pub past : ℕ → Bytes
  past a = take (length bs - a) (drop a bs)

  past_is : (a : ℕ) → past a ≡ drop a bs
  past_is a = take_all (length bs - a) (drop a bs) (simp length-drop (omega arith))

  abbrev units : Bytes
  units = take 11 bs

  abbrev tens : Bytes
  tens = take 90 (drop 11 bs)

  behind_tens : drop 11 bs ≡ tens ++ drop 101 bs
  behind_tens = sym (take-append-drop 90 (drop 11 bs)) ∙ rw (drop-drop 90 11 bs)

  -- what stands from row 10 on, and all
  more_split : members_from 11 (drop 11 bs) ≡ members_from 11 tens ++ members_from 101 (drop 101 bs)
  more_split =
      let size : length tens ≡ 90 = length-take-le 90 (drop 11 bs) (simp length-drop (omega arith)) in
      ap (members_from 11) behind_tens ∙ members_append 11 tens (drop 101 bs) ∙ rw size

  members_split : members_from 0 bs ≡ members_from 0 units ++ (members_from 11 tens ++ members_from 101 (drop 101 bs))
  members_split =
      let size : length units ≡ 11 = length-take-le 11 bs (omega arith) in
      ap (members_from 0) (sym (take-append-drop 11 bs)) ∙ members_append 0 units (drop 11 bs) ∙ ap (λ (l : List ℕ). members_from 0 units ++ l) (rw size more_split)

  pub members_sum : count bs * 2 + count (past 11) + count (past 101) + 1 ≡ length (members_text (members_from 0 bs))
  members_sum =
      let n1 : length units ≡ 11 = length-take-le 11 bs (omega arith) in
      let n2 : length tens ≡ 90 = length-take-le 90 (drop 11 bs) (simp length-drop (omega arith)) in
      let n3 : length (drop 101 bs) ≤ 60 = simp length-drop (omega arith) in
      let a = alike 1 0 units (λ k l u. member_one k (omega arith)) in
      let b = alike 2 11 tens (λ k l u. member_two k l (omega arith)) in
      let c = alike 3 101 (drop 101 bs) (λ k l u. member_three k l (omega arith)) in
      let s = text_append (members_from 0 units) (members_from 11 tens ++ members_from 101 (drop 101 bs)) in
      let t = text_append (members_from 11 tens) (members_from 101 (drop 101 bs)) in
      let whole = ap (λ (l : List ℕ). length (members_text l)) members_split in
      let all = ap length members_split ∙ length-append (members_from 0 units) (members_from 11 tens ++ members_from 101 (drop 101 bs)) in
      let more = length-append (members_from 11 tens) (members_from 101 (drop 101 bs)) in
      let from11 : count (past 11) ≡ length (members_from 11 tens ++ members_from 101 (drop 101 bs)) =
      ap count (past_is 11) ∙ same_count 0 11 (drop 11 bs) ∙ ap length more_split in
      let from101 : count (past 101) ≡ length (members_from 101 (drop 101 bs)) = ap count (past_is 101) ∙ same_count 0 101 (drop 101 bs) in
      omega (arith, whole, s, t, a, b, c, all, more, from11, from101)
