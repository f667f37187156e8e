-- Bytes tested from a position on: those of a set, of the sets from a key on, and of the claims.
use Prim.Native.Nat.{ℕ, zero, suc, ◌+◌, ◌*◌, ◌-◌, ◌≤◌, ◌<◌, max}
use native.Mathlib.Omega.{arith}
use native.Mathlib.Nat.{add-zero}
use native.Mathlib.Numerals.{add-one}
use native.Mathlib.Decide.{dec_lt}
use mathlib.Core.Bool.{Bool, true, false, ◌&&◌, and-true, and-false, and_assoc}
use mathlib.Core.List.{List, [], ◌∷◌, ◌++◌}
use mathlib.Core.Path.{◌≡◌, refl, sym, ◌∙◌}
use lib.ListN.{length, take, drop}
use lib.Seq.{drop-drop, take-add}
use lib.Dec.{ltb, leb, eqb}
use borrow.Author.Tests.{leb-true, leb-false, ne_eqb}
use Rattle.program.specs.Each.{every}
use Rattle.format.specs.Limits.{row_limit}
use Rattle.format.specs.Text.{Bytes, byte_at}
use Rattle.calls.specs.Layout.{member_limit, claims_start}
use Rattle.store.proofs.Claims.{part_inside}
use Rattle.byte_tests.proofs.Below.{Below}
use Rattle.sound_lines.specs.Sound.{within, set_sound, sets_sound, claim_limit, claims_within, NextKey}

-- ---- bytes that are at most their limits

-- no byte so far is above its limit, with one byte more
excess_more : (most b l : ℕ) → eqb (max most (b - l)) 0 ≡ eqb most 0 && leb b l
excess_more most b l = go (leb b l) refl
  where
    go : (t : Bool) → leb b l ≡ t → eqb (max most (b - l)) 0 ≡ eqb most 0 && t
    go true e = let q : max most (b - l) ≡ most = omega (arith, leb-true b l e) in rw q (sym (and-true (eqb most 0)))
    go false e = ne_eqb (max most (b - l)) 0 (λ q. omega (arith, leb-false b l e)) ∙ sym (and-false (eqb most 0))

-- the bytes of the set at a position from member m on
abbrev pub within_on : Bytes → Bytes → ℕ → ℕ → Bool
within_on s members at m = within members m (take (member_limit - m) (drop (at + m) s))

module _ (s members : Bytes) (at : ℕ) where
  pub within_start : within_on s members at 0 ≡ within members 0 (take member_limit (drop at s))
  within_start = rw add-zero

  pub within_goes : (m most : ℕ) {x next : ℕ} → m < member_limit → at + m < length s → x ≡ byte_at s (at + m) - byte_at members m → next ≡ max most x
      → eqb next 0 && within_on s members at (m + 1) ≡ eqb most 0 && within_on s members at m
  unfolding within
  within_goes m most l i e f =
      let q : member_limit - m ≡ suc (member_limit - (m + 1)) = omega arith in
      let p : at + m + 1 ≡ at + (m + 1) = omega arith in
      rw (q, part_inside s (at + m) (member_limit - (m + 1)) i, p, f, e, excess_more most (byte_at s (at + m)) (byte_at members m), add-one m)
      (and_assoc (eqb most 0) (leb (byte_at s (at + m)) (byte_at members m)) _)

  pub within_ends : (m most : ℕ) → member_limit ≤ m → eqb most 0 && within_on s members at m ≡ eqb most 0
  unfolding within
  within_ends m most l = let q : member_limit - m ≡ 0 = omega arith in rw q (and-true (eqb most 0))

-- ---- the claims from row c on

abbrev pub claims_from : Bytes → Bytes → ℕ → Bool
claims_from s chans c = claims_within chans c (take (row_limit - c) (drop (claims_start + c) s))

module _ (s chans : Bytes) where
  pub claims_begin : claims_from s chans 0 ≡ claims_within chans 0 (take row_limit (drop claims_start s))
  claims_begin = refl

  pub claims_go : (c most : ℕ) {limit x next : ℕ} → c < row_limit → claims_start + c < length s → limit ≡ claim_limit (byte_at chans c) → x ≡ byte_at s (claims_start + c) - limit → next ≡ max most x
      → eqb next 0 && claims_from s chans (c + 1) ≡ eqb most 0 && claims_from s chans c
  unfolding claims_within
  claims_go c most l i g e f =
      let q : row_limit - c ≡ suc (row_limit - (c + 1)) = omega arith in
      let p : claims_start + c + 1 ≡ claims_start + (c + 1) = omega arith in
      rw (q, part_inside s (claims_start + c) (row_limit - (c + 1)) i, p, f, e, g, excess_more most (byte_at s (claims_start + c)) (claim_limit (byte_at chans c)), add-one c)
      (and_assoc (eqb most 0) (leb (byte_at s (claims_start + c)) (claim_limit (byte_at chans c))) _)

  pub claims_finish : (c most : ℕ) → row_limit ≤ c → eqb most 0 && claims_from s chans c ≡ eqb most 0
  unfolding claims_within
  claims_finish c most l = let q : row_limit - c ≡ 0 = omega arith in rw q (and-true (eqb most 0))

-- ---- the sets from key n on

-- no key from n to k is marked, with one key more
pub clear_more : (keys : Bytes) (n k : ℕ) → ((j : ℕ) → n ≤ j → j < k → byte_at keys j ≡ 0) → byte_at keys k ≡ 0 → (j : ℕ) → n ≤ j → j < k + 1 → byte_at keys j ≡ 0
clear_more keys n k h e j a b = go (dec_lt j k)
  where
    go : Dec (j < k) → byte_at keys j ≡ 0
    go (yes l) = h j a l
    go (no l) = let q : j ≡ k = omega arith in rw q e

pub every_both : {A : Type 0} (f : A → Bool) (xs ys : List A) → every f (xs ++ ys) ≡ every f xs && every f ys
unfolding every
every_both f [] ys = refl
every_both f (x ∷ xs) ys = rw (every_both f xs ys) (sym (and_assoc (f x) (every f xs) (every f ys)))

module _ (s keys members : Bytes) (base : ℕ) where
  abbrev pub sets_from : ℕ → Bool
  sets_from n = sets_sound keys members (row_limit - n) n (drop (base + n * member_limit) s)

  pub sets_begin : sets_from 0 ≡ sets_sound keys members row_limit 0 (drop base s)
  sets_begin = rw add-zero

  set_first : (n : ℕ) → n < row_limit → sets_from n ≡ set_sound keys members n (take member_limit (drop (base + n * member_limit) s)) && sets_from (n + 1)
  unfolding sets_sound
  set_first n l =
      let q : row_limit - n ≡ suc (row_limit - (n + 1)) = omega arith in
      let e : base + n * member_limit + member_limit ≡ base + (n + 1) * member_limit = omega arith in
      rw (q, drop-drop member_limit (base + n * member_limit) s, e, add-one n)

  pub none_left : (n : ℕ) → row_limit ≤ n → sets_from n ≡ true
  unfolding sets_sound
  none_left n l = let q : row_limit - n ≡ 0 = omega arith in rw q

  -- the sets of d keys that are not marked are empty, and those after them are sound
  empty_sets : (d n : ℕ) → n + d ≤ row_limit → ((j : ℕ) → n ≤ j → j < n + d → byte_at keys j ≡ 0)
      → sets_from n ≡ Below 1 (take (d * member_limit) (drop (base + n * member_limit) s)) && sets_from (n + d)
  unfolding every set_sound
  empty_sets zero n l h = rw (add-zero n)
  empty_sets (suc d) n l h =
      let part = drop (base + n * member_limit) s in
      let q : suc d * member_limit ≡ member_limit + d * member_limit = omega arith in
      let e : base + n * member_limit + member_limit ≡ base + (n + 1) * member_limit = omega arith in
      let i : n + suc d ≡ n + 1 + d = omega arith in
      set_first n (omega arith)
      ∙ rw (
        h n (omega arith) (omega arith),
        empty_sets d (n + 1) (omega arith) (λ j a b. h j (omega arith) (omega arith)),
        q,
        take-add member_limit (d * member_limit) part,
        every_both (λ b. ltb b 1) (take member_limit part) (take (d * member_limit) (drop member_limit part)),
        drop-drop member_limit (base + n * member_limit) s,
        e,
        i,
      )
      (sym (and_assoc (Below 1 (take member_limit part)) _ (sets_from (n + 1 + d))))

  -- what the next marked key decides
  module _ {n k : ℕ} (next : NextKey keys n k) where
    abbrev pub between : Bytes
    between = take (base + k * member_limit - (base + n * member_limit)) (drop (base + n * member_limit) s)

    to_next : sets_from n ≡ Below 1 between && sets_from k
    to_next =
        let q : n + (k - n) ≡ k = omega (arith, next.from) in
        let e : base + k * member_limit - (base + n * member_limit) ≡ (k - n) * member_limit = omega (arith, next.from) in
        empty_sets (k - n) n (omega (arith, next.last)) (λ j a b. next.clear j a (omega (arith, q))) ∙ rw (q, e)

    pub between_fails : Below 1 between ≡ false → false ≡ sets_from n
    between_fails e = rw (to_next, e)

    pub between_ends : Below 1 between ≡ true → row_limit ≤ k → true ≡ sets_from n
    between_ends e l = rw (to_next, e, none_left k l)

    module _ (e : Below 1 between ≡ true) (l : k < row_limit) where
      at_next : sets_from n ≡ within members 0 (take member_limit (drop (base + k * member_limit) s)) && sets_from (k + 1)
      unfolding set_sound
      at_next = rw (to_next, e, set_first k l, ne_eqb (byte_at keys k) 0 (next.marked l))

      pub set_fails : within members 0 (take member_limit (drop (base + k * member_limit) s)) ≡ false → false ≡ sets_from n
      set_fails w = rw (at_next, w)

      pub set_passes : within members 0 (take member_limit (drop (base + k * member_limit) s)) ≡ true → sets_from n ≡ sets_from (k + 1)
      set_passes w = rw (at_next, w)
