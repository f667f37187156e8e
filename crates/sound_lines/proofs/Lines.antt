-- The tests of the bytes say the same as the flags, the codes and what the lines may name.
use Prim.Native.Nat.{ℕ, zero, suc, ◌+◌, ◌*◌, ◌≤◌}
use native.Mathlib.Omega.{arith}
use mathlib.Core.Bool.{Bool, true, false, not, ◌&&◌, and-true, and-false}
use mathlib.Core.List.{List, [], ◌∷◌}
use Rattle.std.specs.Prelude.{Option, None as none, Some as some}
use mathlib.Core.Path.{◌≡◌, refl, sym, ap, ap₂, ◌∙◌}
use lib.ListN.{length, take, drop, length-drop}
use lib.Seq.{drop-drop, take-add, take_all}
use lib.Dec.{ltb, leb, eqb}
use borrow.Author.Tests.{ne_eqb, le-ltb, le-leb, lt-leb, ltb-true, ltb-false}
use Rattle.program.specs.Maybe.{◌<|>◌}
use Rattle.program.specs.Each.{every, elem, collect}
use Rattle.program.specs.Program.{binders, chan_row}
use Rattle.format.specs.Limits.{row_limit}
use Rattle.format.specs.Text.{Bytes, byte_at}
use Rattle.format.specs.Document.{Entry}
use Rattle.format.specs.Structure.{first_failing, member_allowed, not_allowed}
use Rattle.calls.specs.Layout.{member_limit, rows_size, sets_size, store_size, comms_start, claims_start, code_limit, members_from, with_entry, decode_sets, decode_claims}
use Rattle.calls.specs.Canonical.{flags_sound, claims_sound}
use Rattle.calls.proofs.Codec.Sparse.{either}
use Rattle.store.specs.Rows.{store_program}
use Rattle.store.specs.Document.{store_document}
use Rattle.byte_tests.proofs.Below.{Below}
use Rattle.seen.specs.Flags.{flag, Tells}
use Rattle.allowed_lines.specs.Lines.{marked, entry_marked, claim_marked}
use Rattle.allowed.proofs.FirstLine.{parts}
use Rattle.sound_lines.specs.Sound.{within, set_sound, sets_sound, claim_limit, claims_within, codes_sound, passes}
use Rattle.sound_lines.proofs.Bytes.{every_both}

-- four tests in another order
swap : (a b c d : Bool) → (a && b) && (c && d) ≡ (a && c) && (b && d)
swap false b c d = refl
swap true false false d = refl
swap true false true d = refl
swap true true false d = refl
swap true true true d = refl

flag_low : (b : Bool) → flag b ≤ 1
flag_low true = omega arith
flag_low false = omega arith

pub low : {f : ℕ → Bool} {bs : Bytes} → Tells f bs → (n : ℕ) → byte_at bs n ≤ 1
low {f} {bs} h n = rw (h.at n) (flag_low (f n))

-- ---- one set

-- a byte that is not 0 is at most its limit of 0 or 1 exactly if it is 1 and the limit is not 0
member_is : (b l : ℕ) → (b ≡ 0 → ⊥) → l ≤ 1 → ltb b 2 && not (eqb l 0) ≡ leb b l
member_is zero l h k = absurd (h refl)
member_is (suc b) zero h k = and-false (ltb (suc b) 2) ∙ sym (lt-leb (suc b) 0 (omega arith))
member_is (suc b) (suc l) h k = rw (ne_eqb (suc l) 0 (λ e. omega (arith, e)), and-true (ltb (suc b) 2)) (go (ltb (suc b) 2) refl)
  where
    go : (t : Bool) → ltb (suc b) 2 ≡ t → ltb (suc b) 2 ≡ leb (suc b) (suc l)
    go true e = e ∙ sym (le-leb (suc b) (suc l) (omega (arith, ltb-true (suc b) 2 e)))
    go false e = e ∙ sym (lt-leb (suc b) (suc l) (omega (arith, ltb-false (suc b) 2 e)))

-- a set has no member exactly if each byte is 0
no_member : List ℕ → Bool
no_member [] = true
no_member (m ∷ ms) = false

-- a number above 0
positive : (b : ℕ) → eqb (suc b) 0 ≡ false
positive b = ne_eqb (suc b) 0 (λ e. omega (arith, e))

empty_is : (m : ℕ) (xs : Bytes) → Below 2 xs && no_member (members_from m xs) ≡ Below 1 xs
unfolding every members_from no_member
empty_is m [] = refl
empty_is m (zero ∷ bs) = empty_is (suc m) bs
empty_is m (suc b ∷ bs) = rw (positive b, members_from, le-ltb (suc b) 1 (omega arith), and-false (ltb (suc b) 2 && Below 2 bs))

module _ (members : Bytes) (low : (n : ℕ) → byte_at members n ≤ 1) where
  allowed_is : (m : ℕ) (xs : Bytes) → Below 2 xs && every (marked members) (members_from m xs) ≡ within members m xs
  unfolding every members_from within
  allowed_is m [] = refl
  allowed_is m (zero ∷ bs) = allowed_is (suc m) bs ∙ rw (le-leb 0 (byte_at members m) (omega arith))
  allowed_is m (suc b ∷ bs) =
      rw (positive b, members_from) (swap (ltb (suc b) 2) (Below 2 bs) (marked members m) (every (marked members) (members_from (suc m) bs)))
      ∙ ap₂ ◌&&◌ (member_is (suc b) (byte_at members m) (λ e. omega (arith, e)) (low m)) (allowed_is (suc m) bs)

  module _ (keys : Bytes) where
    -- a set that is a line, and those after it
    with_entry_lem : (n : ℕ) (ms : List ℕ) (es : List Entry) → every (entry_marked keys members) (with_entry n ms es)
        ≡ every (entry_marked keys members) (with_entry n ms []) && every (entry_marked keys members) es
    unfolding every with_entry
    with_entry_lem n [] es = refl
    with_entry_lem n (m ∷ ms) es = rw (and-true (entry_marked keys members (record { key = n; members = m ∷ ms })))

    entry_none : (n : ℕ) (ms : List ℕ) → eqb (byte_at keys n) 0 ≡ true → every (entry_marked keys members) (with_entry n ms []) ≡ no_member ms
    unfolding every with_entry entry_marked no_member
    entry_none n [] e = refl
    entry_none n (m ∷ ms) e = rw e

    entry_some : (n : ℕ) (ms : List ℕ) → eqb (byte_at keys n) 0 ≡ false → every (entry_marked keys members) (with_entry n ms []) ≡ every (marked members) ms
    unfolding every with_entry entry_marked
    entry_some n [] e = refl
    entry_some n (m ∷ ms) e = rw (e, and-true (every (marked members) (m ∷ ms)))

    set_is : (n : ℕ) (xs : Bytes) → Below 2 xs && every (entry_marked keys members) (with_entry n (members_from 0 xs) []) ≡ set_sound keys members n xs
    unfolding set_sound
    set_is n xs =
        either (eqb (byte_at keys n) 0) (λ e. rw (entry_none n (members_from 0 xs) e, e) (empty_is 0 xs)) (λ e. rw (entry_some n (members_from 0 xs) e, e) (allowed_is 0 xs))

    -- ---- the sets of k keys from n on

    sets_are : (k n : ℕ) (bs : Bytes) → Below 2 (take (k * member_limit) bs) && every (entry_marked keys members) (decode_sets k n bs) ≡ sets_sound keys members k n bs
    unfolding every decode_sets sets_sound
    sets_are zero n bs = refl
    sets_are (suc k) n bs =
        let q : suc k * member_limit ≡ member_limit + k * member_limit = omega arith in
        let first = take member_limit bs in
        let others = drop member_limit bs in
        rw (
          q,
          take-add member_limit (k * member_limit) bs,
          every_both (λ b. ltb b 2) first (take (k * member_limit) others),
          with_entry_lem n (members_from 0 first) (decode_sets k (suc n) others),
          ← (set_is n first),
          ← (sets_are k (suc n) others),
        )
        (swap (Below 2 first) (Below 2 (take (k * member_limit) others)) _ _)

-- ---- the claims

code_is : (k chan : ℕ) → ltb (suc k) code_limit && not (eqb chan 0) ≡ leb (suc k) (claim_limit chan)
code_is k zero = and-false (ltb (suc k) code_limit) ∙ sym (lt-leb (suc k) 0 (omega arith))
code_is k (suc c) = rw (positive c, and-true (ltb (suc k) code_limit)) (go (ltb (suc k) code_limit) refl)
  where
    go : (t : Bool) → ltb (suc k) code_limit ≡ t → ltb (suc k) code_limit ≡ leb (suc k) 6
    go true e = e ∙ sym (le-leb (suc k) 6 (omega (arith, ltb-true (suc k) code_limit e)))
    go false e = e ∙ sym (lt-leb (suc k) 6 (omega (arith, ltb-false (suc k) code_limit e)))

claims_are : (chans : Bytes) (c : ℕ) (ks : Bytes) → Below code_limit ks && every (claim_marked chans) (decode_claims c ks) ≡ claims_within chans c ks
unfolding every decode_claims claims_within claim_marked
claims_are chans c [] = refl
claims_are chans c (zero ∷ ks) = claims_are chans (suc c) ks ∙ rw (le-leb 0 (claim_limit (byte_at chans c)) (omega arith))
claims_are chans c (suc k ∷ ks) =
    rw (positive k, decode_claims) (swap (ltb (suc k) code_limit) (Below code_limit ks) (marked chans c) (every (claim_marked chans) (decode_claims (suc c) ks)))
    ∙ ap₂ ◌&&◌ (code_is k (byte_at chans c)) (claims_are chans (suc c) ks)

-- ---- no line fails

none_fails : {A : Type 0} (ok : A → Bool) (line : ℕ) (xs : List A) → passes (first_failing ok line xs) ≡ every ok xs
unfolding first_failing every
none_fails ok line [] = refl
none_fails ok line (x ∷ xs) = either (ok x) (λ e. rw (e, first_failing) (none_fails ok (line + 1) xs)) (λ e. rw (e, first_failing))

three_pass : {A : Type 0} (a b c : Option A) → passes (a <|> b <|> c) ≡ (passes a && passes b && passes c)
unfolding ◌<|>◌
three_pass (some x) b c = refl
three_pass none (some y) c = refl
three_pass none none c = refl

-- ---- all lines

-- in a store of the fixed size the claims are its end
pub claims_codes : (s : Bytes) → length s ≡ store_size → codes_sound s ≡ claims_sound s
unfolding codes_sound claims_sound
claims_codes s size = ap (Below code_limit) (take_all row_limit (drop claims_start s) (rw (length-drop claims_start s) (omega (arith, size))))

module _ (n : ℕ) (s : Bytes) {keys chans members : Bytes}
    (bound : Tells (λ k. elem k (collect binders (store_program n s))) keys) (chan : Tells (chan_row (store_program n s)) chans) (allowed : Tells (member_allowed (store_program n s)) members)
  where
    abbrev Sound : Bool
    Sound = flags_sound s && codes_sound s && passes (not_allowed (store_document n s))

    abbrev flows_part : Bytes
    flows_part = drop rows_size s

    abbrev comms_part : Bytes
    comms_part = drop comms_start s

    abbrev claims_part : Bytes
    claims_part = take row_limit (drop claims_start s)

    flags_are : flags_sound s ≡ Below 2 (take sets_size flows_part) && Below 2 (take sets_size comms_part)
    unfolding flags_sound
    flags_are =
        ap (Below 2) (take-add sets_size sets_size flows_part)
        ∙ every_both (λ b. ltb b 2) (take sets_size flows_part) (take sets_size (drop sets_size flows_part))
        ∙ ap (λ (part : Bytes). Below 2 (take sets_size flows_part) && Below 2 (take sets_size part)) (drop-drop sets_size rows_size s)

    codes_are : codes_sound s ≡ Below code_limit claims_part
    unfolding codes_sound
    codes_are = refl

    lines_are : passes (not_allowed (store_document n s))
        ≡ (every (entry_marked keys members) (decode_sets row_limit 0 flows_part) && every (entry_marked chans members) (decode_sets row_limit 0 comms_part) && every (claim_marked chans) (decode_claims 0 claims_part))
    lines_are =
        ap (λ (o : Option ℕ). passes o) (parts n s bound chan allowed)
        ∙ three_pass _ _ _
        ∙ ap₂ ◌&&◌ (ap₂ ◌&&◌ (none_fails _ _ _) (none_fails _ _ _)) (none_fails _ _ _)

    tests_are : Sound ≡ (sets_sound keys members row_limit 0 flows_part && sets_sound chans members row_limit 0 comms_part && claims_within chans 0 claims_part)
    tests_are =
        ap₂ ◌&&◌ (ap₂ ◌&&◌ flags_are codes_are) lines_are
        ∙ swap (Below 2 (take sets_size flows_part) && Below 2 (take sets_size comms_part)) (Below code_limit claims_part) _ _
        ∙ ap₂ ◌&&◌
        (swap (Below 2 (take sets_size flows_part)) (Below 2 (take sets_size comms_part)) _ _
        ∙ ap₂ ◌&&◌ (sets_are members (low allowed) keys row_limit 0 flows_part) (sets_are members (low allowed) chans row_limit 0 comms_part))
        (claims_are chans 0 claims_part)

    module _ {f : Bool} (flow : f ≡ sets_sound keys members row_limit 0 flows_part) where
      pub flows_fail : f ≡ false → false ≡ Sound
      flows_fail e = rw (tests_are, ← flow, e)

      module _ (flows_pass : f ≡ true) {g : Bool} (comm : g ≡ sets_sound chans members row_limit 0 (drop comms_start s)) where
        pub comms_fail : g ≡ false → false ≡ Sound
        comms_fail e = rw (tests_are, ← flow, flows_pass, ← comm, e)

        pub claims_decide : g ≡ true → {h : Bool} → h ≡ claims_within chans 0 claims_part → h ≡ Sound
        claims_decide e q = rw (tests_are, ← flow, flows_pass, ← comm, e) q
