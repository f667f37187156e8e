-- The tables of a store's bytes are those of the entries that its bytes decode to.
use Prim.Native.Nat.{ℕ, zero, suc, ◌+◌, ◌*◌, ◌≤◌, ◌<◌}
use native.Mathlib.Omega.{arith}
use native.Mathlib.Nat.{zero-add}
use native.Mathlib.Decide.{dec_lt}
use mathlib.Core.Bool.{true, false}
use mathlib.Core.List.{List, [], ◌∷◌}
use mathlib.Core.Path.{◌≡◌, refl, ◌∙◌, fun_ext}
use lib.ListN.{get_or, take, drop, length-take, get_or-eq_default}
use lib.Seq.{get_or-take, get_or-drop, drop-drop}
use lib.Dec.{ltb, leb, eqb}
use borrow.Author.Tests.{eq-eqb, ne_eqb, lt-ltb, eqb-true, eqb-false, le-leb, lt-leb}
use Rattle.program.specs.Test.{pick}
use Rattle.program.specs.Each.{elem}
use Rattle.format.specs.Limits.{row_limit}
use Rattle.format.specs.Text.{Bytes}
use Rattle.format.specs.Document.{Entry, member, members_at, table_of}
use Rattle.calls.specs.Layout.{member_limit, rows_size, comms_start, members_from, with_entry, decode_sets}
use Rattle.calls.proofs.Codec.Sparse.{either}
use Rattle.store.specs.Document.{flag_at, flow_flag, comm_flag, store_flow, store_comm}

-- ---- the members of some bytes

-- none below that of the first byte
members_from_lem : (j i : ℕ) (bs : Bytes) → j < i → elem j (members_from i bs) ≡ false
unfolding elem members_from
members_from_lem j i [] l = refl
members_from_lem j i (b ∷ bs) l =
    either (eqb b 0)
    (λ e. rw (e, members_from) (members_from_lem j (suc i) bs (omega arith)))
    (λ e. rw (e, members_from, elem, ne_eqb j i (omega arith)) (members_from_lem j (suc i) bs (omega arith)))

-- a member is one whose byte is not 0
elem_members : (m i : ℕ) (bs : Bytes) → elem (m + i) (members_from i bs) ≡ ltb 0 (get_or bs m 0)
unfolding elem members_from
elem_members m i [] = refl
elem_members zero i (b ∷ bs) =
    either (eqb b 0)
    (λ e. rw (e, members_from, eqb-true b 0 e, zero-add) (members_from_lem i (suc i) bs (omega arith)))
    (λ e. let l : ltb 0 b ≡ true = lt-ltb 0 b (omega (arith, eqb-false b 0 e)) in rw (e, members_from, elem, eq-eqb (0 + i) i (omega arith), l))
elem_members (suc m) i (b ∷ bs) =
    let q : suc m + i ≡ m + suc i = omega arith in
    either (eqb b 0)
    (λ e. rw (e, members_from) (rw (← q) at (elem_members m (suc i) bs)))
    (λ e. rw (e, members_from, elem, ne_eqb (suc m + i) i (omega arith)) (rw (← q) at (elem_members m (suc i) bs)))

-- the same of the first k bytes
elem_taken : (k m : ℕ) (bs : Bytes) → elem m (members_from 0 (take k bs)) ≡ ltb 0 (pick (leb k m) 0 (get_or bs m 0))
elem_taken k m bs =
    let q : m + 0 ≡ m = omega arith in
    let all : elem m (members_from 0 (take k bs)) ≡ ltb 0 (get_or (take k bs) m 0) = rw q at (elem_members m 0 (take k bs)) in
    elim (dec_lt m k) [
      | yes l ↦ all ∙ rw (lt-leb k m l, get_or-take k bs m 0 l)
      | no n ↦ all ∙ rw (le-leb k m (omega arith), get_or-eq_default (take k bs) 0 {n = m} (simp length-take (omega arith)))
    ]

-- ---- the entries of some sets

entry_other : (n i : ℕ) (ms : List ℕ) (es : List Entry) → eqb n i ≡ false → members_at (with_entry i ms es) n ≡ members_at es n
unfolding members_at with_entry
entry_other n i [] es e = refl
entry_other n i (m ∷ ms) es e = rw (e, members_at)

entry_own : (n : ℕ) (ms : List ℕ) (es : List Entry) → members_at es n ≡ [] → members_at (with_entry n ms es) n ≡ ms
unfolding members_at with_entry
entry_own n [] es e = e
entry_own n (m ∷ ms) es e = rw (eq-eqb n n refl, members_at)

-- a set before the first has no entry
sets_before : (k n i : ℕ) (bs : Bytes) → n < i → members_at (decode_sets k i bs) n ≡ []
unfolding decode_sets members_at
sets_before zero n i bs l = refl
sets_before (suc k) n i bs l =
    entry_other n i _ _ (ne_eqb n i (omega arith)) ∙ sets_before k n (suc i) (drop member_limit bs) (omega arith)

-- nor one past the last
sets_past : (k j i : ℕ) (bs : Bytes) → k ≤ j → members_at (decode_sets k i bs) (j + i) ≡ []
unfolding decode_sets members_at
sets_past zero j i bs l = refl
sets_past (suc k) zero i bs l = absurd (omega arith)
sets_past (suc k) (suc j) i bs l =
    let q : suc j + i ≡ j + suc i = omega arith in
    entry_other (suc j + i) i _ _ (ne_eqb (suc j + i) i (omega arith)) ∙ rw q (sets_past k j (suc i) (drop member_limit bs) (omega arith))

-- the members of each
sets_at : (k j i : ℕ) (bs : Bytes) → j < k → members_at (decode_sets k i bs) (j + i) ≡ members_from 0 (take member_limit (drop (j * member_limit) bs))
unfolding decode_sets
sets_at zero j i bs l = absurd (omega arith)
sets_at (suc k) zero i bs l = rw zero-add (entry_own i _ _ (sets_before k i (suc i) (drop member_limit bs) (omega arith)))
sets_at (suc k) (suc j) i bs l =
    let q : suc j + i ≡ j + suc i = omega arith in
    let d : member_limit + j * member_limit ≡ suc j * member_limit = omega arith in
    entry_other (suc j + i) i _ _ (ne_eqb (suc j + i) i (omega arith))
    ∙ rw (q, ← d, ← (drop-drop (j * member_limit) member_limit bs)) (sets_at k j (suc i) (drop member_limit bs) (omega arith))

-- ---- the tables

-- the sets that begin at a base
sets_table : (s : Bytes) (k base : ℕ) (n m : ℕ)
    → elem m (members_at (decode_sets k 0 (drop base s)) n)
    ≡ ltb 0 (pick (leb k n) 0 (pick (leb member_limit m) 0 (get_or s (base + n * member_limit + m) 0)))
unfolding elem
sets_table s k base n m =
    let q : n + 0 ≡ n = omega arith in
    elim (dec_lt n k) [
      | yes l ↦
          let at : members_at (decode_sets k 0 (drop base s)) n ≡ members_from 0 (take member_limit (drop (n * member_limit) (drop base s))) = rw q at (sets_at k n 0 (drop base s) l) in
          rw (lt-leb k n l, at, drop-drop, elem_taken, get_or-drop)
      | no g ↦
          let none : members_at (decode_sets k 0 (drop base s)) n ≡ [] = rw q at (sets_past k n 0 (drop base s) (omega arith)) in
          rw (le-leb k n (omega arith), none)
    ]

pub flow_table_lem : (s : Bytes) → table_of (decode_sets row_limit 0 (drop rows_size s)) ≡ store_flow s
unfolding table_of store_flow flow_flag flag_at
flow_table_lem s = fun_ext λ n. fun_ext λ a. sets_table s row_limit rows_size n (member a)

pub comm_table_lem : (s : Bytes) → table_of (decode_sets row_limit 0 (drop comms_start s)) ≡ store_comm s
unfolding table_of store_comm comm_flag flag_at
comm_table_lem s = fun_ext λ n. fun_ext λ a. sets_table s row_limit comms_start n (member a)
