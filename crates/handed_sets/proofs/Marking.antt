-- The list's test row by row, and the marks of what is left of it.
use Prim.Native.Nat.{ℕ, suc, ◌+◌, ◌≤◌, ◌<◌}
use native.Mathlib.Omega.{arith}
use native.Mathlib.Numerals.{add-one}
use mathlib.Core.Bool.{Bool, true, false, ◌&&◌, So, false≢true}
use mathlib.Core.List.{[], ◌∷◌, map}
use mathlib.Core.Path.{◌≡◌, refl, sym, ap, ◌∙◌}
use lib.ListN.{length, drop, set, replicate, length-set, length-replicate, drop_of_length-le}
use lib.Seq.{drop-cons}
use lib.Dec.{ltb, leb}
use borrow.Author.Tests.{leb-true, le-leb, lt-leb, lt-ltb, ltb-true}
use Rattle.program.specs.Each.{every, Each, nil, ◌&◌}
use Rattle.program.proofs.Test.{and_left, and_right, and_intro, same_tests}
use Rattle.program.proofs.Each.{every_elim, each_imp, each_all}
use Rattle.format.specs.Text.{Bytes, byte_at}
use Rattle.format.specs.Read.{rising}
use Rattle.calls.specs.Layout.{member_limit, flags_of}
use Rattle.calls.proofs.Canonical.Lists.{every_intro}
use Rattle.read_sets.specs.Sets.{marks}
use Rattle.read_sets.proofs.Marks.{marks_flags}
use Rattle.replacement.specs.Replacement.{members_of}
use Rattle.handed_sets.specs.Handed.{list_allowed, Marked}

-- ---- the test

module _ (allowed : Bytes) where
  fine : ℕ → Bool
  fine r = ltb 0 (byte_at allowed (r + 1))

  -- the rest of a list, where a rising one goes on with at least `least`
  unfoldable pub passes : ℕ → Bytes → Bool
  passes least [] = true
  passes least (r ∷ rs) = leb least r && ltb 0 (byte_at allowed (r + 1)) && passes (r + 1) rs

  there : (least : ℕ) (rs : Bytes) → So (passes least rs) → Each (λ r. least ≤ r) rs × So (rising rs) × So (every fine rs)
  unfolding passes rising every fine
  there least [] t = (nil, refl, refl)
  there least (r ∷ rs) t =
      let head = and_left (leb least r && fine r) (passes (r + 1) rs) t in
      let l = leb-true least r (and_left (leb least r) (fine r) head) in
      let (above, up, ok) = there (r + 1) rs (and_right (leb least r && fine r) (passes (r + 1) rs) t) in (
        l & each_imp (λ x k. omega arith) above,
        and_intro (every_intro (ltb r) (each_imp (λ x k. lt-ltb r x (omega arith)) above)) up,
        and_intro (and_right (leb least r) (fine r) head) ok,
      )

  back : (least : ℕ) (rs : Bytes) → Each (λ r. least ≤ r) rs → So (rising rs) → So (every fine rs) → So (passes least rs)
  unfolding passes rising every fine
  back least [] l up ok = refl
  back least (r ∷ rs) (l & h) up ok =
      let above : Each (λ x. r + 1 ≤ x) rs = each_imp (λ x k. let lt = ltb-true r x k in omega arith) (every_elim (ltb r) rs (and_left (every (ltb r) rs) (rising rs) up)) in
      and_intro (and_intro (le-leb least r l) (and_left (fine r) (every fine rs) ok)) (back (r + 1) rs above (and_right (every (ltb r) rs) (rising rs) up) (and_right (fine r) (every fine rs) ok))

  pub passes_is : (list : Bytes) → passes 0 list ≡ list_allowed allowed list
  unfolding list_allowed fine
  passes_is list = same_tests (passes 0 list) _
      (λ t. let (_, up, ok) = there 0 list t in and_intro up ok)
      (λ t. back 0 list (each_all list (λ r. omega arith)) (and_left (rising list) _ t) (and_right (rising list) _ t))

  -- row r of the list does not go on with it, is not allowed, or is one more
  module _ (least i r : ℕ) (list : Bytes) (more : i < length list) (e : r ≡ byte_at list i) where
    abbrev rest : Bytes
    rest = drop (i + 1) list

    split : drop i list ≡ r ∷ rest
    split = drop-cons list i 0 more ∙ ap (λ (n : ℕ). byte_at list i ∷ drop n list) (sym (add-one i)) ∙ ap (λ (x : ℕ). x ∷ rest) (sym e)

    falls : r < least → passes least (drop i list) ≡ false
    unfolding passes
    falls l = rw (split, passes, lt-leb least r l)

    bars : byte_at allowed (r + 1) ≡ 0 → passes least (drop i list) ≡ false
    unfolding passes
    bars z = rw (split, passes, z) (go (leb least r))
      where
        go : (b : Bool) → (b && false && passes (r + 1) rest) ≡ false
        go true = refl
        go false = refl

    goes_on : least ≤ r → 0 < byte_at allowed (r + 1) → passes least (drop i list) ≡ passes (r + 1) rest
    unfolding passes
    goes_on l k = rw (split, passes, le-leb least r l, lt-ltb 0 (byte_at allowed (r + 1)) k)

  ends : (least i : ℕ) (list : Bytes) → length list ≤ i → passes least (drop i list) ≡ true
  unfolding passes
  ends least i list l = rw (drop_of_length-le list l)

-- ---- the marks

abbrev empty : Bytes
empty = replicate member_limit 0

-- after i rows: what is left of the list decides as the list does, where it goes on with at least `least`, and marks what the list marks
pub record Going (unit : Bool) (list allowed : Bytes) (i least : ℕ) (flags : Bytes) : Type 0 where
  pub inside : i ≤ length list
  pub size : length flags ≡ member_limit
  pub marked : marks (map suc (drop i list)) flags ≡ flags_of (members_of unit list)
  pub decides : passes allowed least (drop i list) ≡ list_allowed allowed list

module _ {unit : Bool} (list allowed : Bytes) {old new : Bytes} (e : old ≡ empty) where
  pub with_unit : unit ≡ true → new ≡ set old 0 1 → Going unit list allowed 0 0 new
  unfolding members_of marks
  with_unit u q = rw (u, q, e) (record {
    inside = omega arith;
    size = length-set empty 0 1 ∙ length-replicate {A = ℕ} member_limit 0;
    marked = marks_flags (members_of true list);
    decides = passes_is allowed list;
  })

  pub without_unit : unit ≡ false → new ≡ old → Going unit list allowed 0 0 new
  unfolding members_of
  without_unit u q = rw (u, q, e) (record {
    inside = omega arith;
    size = length-replicate {A = ℕ} member_limit 0;
    marked = marks_flags (members_of false list);
    decides = passes_is allowed list;
  })

module _ (unit : Bool) (list allowed : Bytes) {i least : ℕ} {flags : Bytes} (h : Going unit list allowed i least flags) where
  no_set : passes allowed least (drop i list) ≡ false → Marked unit list allowed false flags
  no_set e = record { answer_is = sym e ∙ h.decides; flags = λ q. absurd (false≢true q) }

  module _ {r : ℕ} (more : i < length list) (e : r ≡ byte_at list i) where
    pub not_rising_lem : r < least → Marked unit list allowed false flags
    not_rising_lem l = no_set (falls allowed least i r list more e l)

    pub is_not_allowed : byte_at allowed (r + 1) ≡ 0 → Marked unit list allowed false flags
    is_not_allowed z = no_set (bars allowed least i r list more e z)

    pub one_more : least ≤ r → 0 < byte_at allowed (r + 1) → Going unit list allowed (i + 1) (r + 1) (set flags (r + 1) 1)
    unfolding marks
    one_more l k = record {
      inside = omega arith;
      size = length-set flags (r + 1) 1 ∙ h.size;
      marked = ap (λ (n : ℕ). marks (map suc (drop (i + 1) list)) (set flags n 1)) (add-one r) ∙ ap (λ (x : Bytes). marks (map suc x) flags) (sym (split allowed least i r list more e)) ∙ h.marked;
      decides = sym (goes_on allowed least i r list more e l k) ∙ h.decides;
    }

  pub a_set : length list ≤ i → Marked unit list allowed true flags
  unfolding marks
  a_set l = record {
    answer_is = sym (ends allowed least i list l) ∙ h.decides;
    flags = λ _. ap (λ (x : Bytes). marks (map suc x) flags) (sym (drop_of_length-le list l)) ∙ h.marked;
  }
