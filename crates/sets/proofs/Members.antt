-- Sets as bytes: the sets of a store, one set within another, and sets of rows that pass a test.
use Prim.Native.Nat.{ℕ, zero, suc, ◌+◌, ◌*◌, ◌≤◌, ◌<◌, max}
use native.Mathlib.Omega.{arith}
use native.Mathlib.Decide.{dec_lt}
use native.Mathlib.Numerals.{add-one}
use mathlib.Core.Bool.{Bool, true, false, ◌&&◌, So}
use mathlib.Core.List.{[]}
use mathlib.Core.Path.{◌≡◌, ◌∙◌, fun_ext}
use mathlib.Core.Logic.{◌↔◌}
use lib.ListN.{length, get_or, take, drop, length-take, length-drop, get_or-eq_default}
use lib.Seq.{get_or-take, get_or-drop}
use lib.Dec.{ltb, leb, eqb}
use borrow.Author.Tests.{lt-ltb, le-leb, lt-leb, ne_eqb}
use Rattle.program.specs.Test.{pick, ◌⇒◌, all}
use Rattle.program.specs.Flow.{Abstract, u, row, Set, for_each, lies}
use Rattle.format.specs.Limits.{row_limit}
use Rattle.format.specs.Text.{Bytes, byte_at}
use Rattle.format.specs.Document.{member}
use Rattle.calls.specs.Layout.{member_limit, store_size, sets_size, rows_size, comms_start}
use Rattle.store.specs.Rows.{store_program}
use Rattle.store.proofs.Laws.{program_length}
use Rattle.tables.specs.Tables.{flag_at, flow_flag, comm_flag, store_flow, store_comm}
use Rattle.sets.specs.Sets.{set_of, part_at, within, unless_in, lies_below, PassingSet}
use Rattle.program.proofs.Test.{and_left, and_right, and_intro, all_same, all_elim, all_intro, implies_elim, implies_intro}
use Rattle.sets.proofs.Tests.{implies_true, all_true, all_shift}

-- ---- the bytes of two sets

-- one member more
unless_in_step : (found a b : ℕ) → eqb (max found (unless_in a b)) 0 ≡ (ltb 0 a ⇒ ltb 0 b) && eqb found 0
unfolding unless_in
unless_in_step found zero zero =
    let q : max found 0 ≡ found = omega arith in
    rw q
unless_in_step found (suc a) zero = rw (ne_eqb (max found (suc a)) 0 (λ e. omega arith), lt-ltb 0 (suc a) (omega arith))
unless_in_step found a (suc b) =
    let q : max found 0 ≡ found = omega arith in
    rw (ne_eqb (suc b) 0 (λ e. omega arith), lt-ltb 0 (suc b) (omega arith), implies_true (ltb 0 a), q)

-- where the first members are looked at, and then one more
pub within_more : (i : ℕ) (a b : Bytes) (rest : ℕ) → eqb rest 0 ≡ within i a b → eqb (max rest (unless_in (byte_at a i) (byte_at b i))) 0 ≡ within (i + 1) a b
unfolding within all
within_more i a b rest h = rw (unless_in_step rest (byte_at a i) (byte_at b i), h, add-one)

pub set_full : (s : Bytes) → member_limit ≤ length s → set_of s ≡ λ a. ltb 0 (byte_at s (member a))
unfolding set_of
set_full s h = fun_ext λ a. rw (le-leb _ _ h)

pub set_short : (s : Bytes) → length s < member_limit → set_of s ≡ λ a. false
unfolding set_of
set_short s h = fun_ext λ a. rw (lt-leb _ _ h)

-- two sets of bytes
pub within_lies : (n : ℕ) (a b : Bytes) → member_limit ≤ length a → member_limit ≤ length b → within (n + 1) a b ≡ lies_below n (set_of a) (set_of b)
unfolding within lies_below member
within_lies n a b k l = rw (add-one, set_full a k, set_full b l) (all_shift n _)

-- no bytes lie in every set
pub lies_short : (n : ℕ) (a : Bytes) (t : Set) → length a < member_limit → lies_below n (set_of a) t ≡ true
unfolding lies_below
lies_short n a t h = rw (set_short a h) (all_true n)

-- of more members, and so of fewer
pub within_fewer : (n m : ℕ) (a b : Bytes) → n ≤ m → So (within m a b) → So (within n a b)
unfolding within
within_fewer n m a b l h = all_intro n _ λ i k. all_elim m _ h i (omega arith)

-- a set within one of no bytes
pub within_short : (n : ℕ) (a b none : Bytes) → member_limit ≤ length a → length b < member_limit → ((i : ℕ) → byte_at none i ≡ 0) → within (n + 1) a none ≡ lies_below n (set_of a) (set_of b)
unfolding within lies_below member
within_short n a b none k l z =
    rw (add-one, set_full a k, set_short b l) (all_same (suc n) _ _ (λ i m. rw (z i)) ∙ all_shift n λ i. ltb 0 (byte_at a i) ⇒ false)

-- ---- the sets of a store

taken : (s : Bytes) (k d m : ℕ) → get_or (take k (drop d s)) m 0 ≡ pick (leb k m) 0 (get_or s (d + m) 0)
taken s k d m =
    elim (dec_lt m k) [
      | yes l ↦ rw (lt-leb k m l) (get_or-take k (drop d s) m 0 l ∙ get_or-drop d s m 0)
      | no g ↦ rw (le-leb k m (omega arith)) (get_or-eq_default (take k (drop d s)) 0 {n = m} (simp length-take (omega arith)))
    ]

set_part : (s : Bytes) (base n : ℕ) → base + sets_size ≤ length s → set_of (part_at s base n) ≡ λ a. ltb 0 (flag_at s (λ n. base + n * member_limit) n (member a))
unfolding part_at flag_at
set_part s base n h =
    elim (dec_lt n row_limit) [
      | yes l ↦
          let d = base + n * member_limit in
          rw (lt-leb row_limit n l, set_full (take member_limit (drop d s)) (simp (length-take, length-drop) (omega arith)))
          (fun_ext λ a. rw (taken s member_limit d (member a)))
      | no g ↦ rw (le-leb row_limit n (omega arith), set_short [] (omega arith))
    ]

pub flow_part : (s : Bytes) (n : ℕ) → store_size ≤ length s → set_of (part_at s rows_size n) ≡ store_flow s n
unfolding store_flow flow_flag
flow_part s n h = set_part s rows_size n (omega arith)

pub comm_part : (s : Bytes) (n : ℕ) → store_size ≤ length s → set_of (part_at s comms_start n) ≡ store_comm s n
unfolding store_comm comm_flag
comm_part s n h = set_part s comms_start n (omega arith)

-- ---- a set within another, of the program's members

pub lies_at : (n : ℕ) (s : Bytes) (a b : Set) → lies_below n a b ≡ lies (store_program n s) a b
unfolding lies_below lies for_each
lies_at n s a b = rw (program_length n s)

-- a set of rows that pass a test holds a set exactly if each row in it passes
pub marks-lies : (n : ℕ) (s : Bytes) (f : ℕ → Bool) (marks : Bytes) (a : Set) → PassingSet n f marks → lies (store_program n s) a (set_of marks) ≡ for_each (store_program n s) a f
unfolding lies for_each member
marks-lies n s f marks a m =
    rw (set_full marks m.size, lt-ltb 0 _ m.unit, implies_true (a u))
    (all_same _ _ _ λ i l. let q = m.rows i (rw (program_length n s) at l) in rw (← (add-one i), q))

-- ---- one set in another, of the first members

pub lies_below_iff : (n : ℕ) (s t : Set) → So (lies_below n s t) ↔ ((a : Abstract) → member a < n + 1 → So (s a) → So (t a))
unfolding lies_below member
lies_below_iff n s t = (there, λ h. and_intro (implies_intro (s u) (h u (omega arith))) (all_intro n _ (λ r l. implies_intro (s (row r)) (h (row r) (omega arith)))))
  where
    there : So ((s u ⇒ t u) && all n (λ r. s (row r) ⇒ t (row r))) → (a : Abstract) → member a < n + 1 → So (s a) → So (t a)
    there h u l k = implies_elim (t u) (and_left _ _ h) k
    there h (row r) l k = implies_elim (t (row r)) (all_elim n (λ r. s (row r) ⇒ t (row r)) (and_right (s u ⇒ t u) _ h) r (unfold member in omega arith)) k
