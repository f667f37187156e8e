-- The lines of a table: they are its flags in the store, their sets are its sets, and they hold only what it holds.
use Prim.Native.Nat.{ℕ, zero, suc, ◌+◌, ◌*◌, ◌≤◌, ◌<◌}
use native.Mathlib.Omega.{arith}
use native.Mathlib.Decide.{dec_lt}
use native.Mathlib.Nat.{zero-add, add-zero}
use mathlib.Core.Bool.{Bool, true, false, So}
use mathlib.Core.List.{List, [], ◌∷◌}
use mathlib.Core.Path.{◌≡◌, refl, sym, ap, ◌∙◌, fun_ext}
use mathlib.Core.Logic.{◌≢◌}
use lib.ListN.{length, get_or, take, length-append, get_or-eq_default}
use lib.Seq.{take_at, drop_at, take_all}
use lib.Dec.{eqb, lit<}
use borrow.Author.Tests.{eqb-false}
use Rattle.program.specs.Test.{pick}
use Rattle.program.specs.Each.{Each, nil, ◌&◌, collect, elem}
use Rattle.program.specs.Flow.{Abstract, u, row, Set, Table}
use Rattle.program.proofs.Each.{each_imp}
use Rattle.format.specs.Limits.{row_limit}
use Rattle.format.specs.Document.{Entry, member, members_at, table_of}
use Rattle.format.specs.Read.{present}
use Rattle.calls.specs.Layout.{member_limit, sets_size, counting, sets_bytes, members_from, with_entry, decode_sets}
use Rattle.inference.specs.Inference.{abstract_of, set_flags, table_flags, entries_of}
use Rattle.calls.proofs.Codec.Sparse.{either, counting-length, counting_each}
use Rattle.calls.proofs.Canonical.Lists.{chunks_iff, each_collect, below_iff}
use Rattle.calls.proofs.Canonical.Sets.{flag_again, set_again, sets_within, sets_iff, members_none}

pub abstract_member : (a : Abstract) → abstract_of (member a) ≡ a
unfolding abstract_of member
abstract_member u = refl
abstract_member (row r) = refl

counting_at : (n i : ℕ) (f : ℕ → ℕ) (j : ℕ) → j < n → get_or (counting n i f) j 0 ≡ f (i + j)
unfolding counting
counting_at zero i f j l = absurd (omega arith)
counting_at (suc n) i f zero l = rw add-zero
counting_at (suc n) i f (suc j) l = counting_at n (suc i) f j (omega arith) ∙ ap f (omega arith)

-- ---- one set

pub flags_size : (s : Set) → length (set_flags s) ≡ member_limit
unfolding set_flags
flags_size s = counting-length member_limit 0 _

pub flags_low : (s : Set) → Each (λ b. b < 2) (set_flags s)
unfolding set_flags
flags_low s = counting_each member_limit 0 _ λ m. either (s (abstract_of m)) (λ e. rw e (lit< tt)) (λ e. rw e (lit< tt))

pub flag_at_lem : (s : Set) (m : ℕ) → m < member_limit → get_or (set_flags s) m 0 ≡ pick (s (abstract_of m)) 1 0
unfolding set_flags
flag_at_lem s m l = counting_at member_limit 0 _ m l ∙ ap (λ k. pick (s (abstract_of k)) 1 0) (zero-add m)

same_flags : (a b : Bool) → ◌≡◌ {A = ℕ} (pick a 1 0) (pick b 1 0) → a ≡ b
same_flags true true e = refl
same_flags true false e = absurd (omega arith)
same_flags false true e = absurd (omega arith)
same_flags false false e = refl

elem_flags : (s : Set) (m : ℕ) → m < member_limit → elem m (members_from 0 (set_flags s)) ≡ s (abstract_of m)
elem_flags s m l =
    same_flags _ _ (ap (λ k. pick (elem k (members_from 0 (set_flags s))) 1 0) (sym (zero-add m)) ∙ flag_again 0 (set_flags s) (flags_low s) m ∙ flag_at_lem s m l)

elem_past : (s : Set) (m : ℕ) → member_limit ≤ m → elem m (members_from 0 (set_flags s)) ≡ false
elem_past s m l =
    same_flags _ _ (ap (λ k. pick (elem k (members_from 0 (set_flags s))) 1 0) (sym (zero-add m)) ∙ flag_again 0 (set_flags s) (flags_low s) m
    ∙ get_or-eq_default (set_flags s) 0 {n = m} (omega (arith, flags_size s)))

-- the members of some flags
members_flagged : (n i : ℕ) (f : ℕ → ℕ) → Each (λ m. f m ≢ 0) (members_from i (counting n i f))
unfolding counting members_from
members_flagged zero i f = nil
members_flagged (suc n) i f =
    either (eqb (f i) 0)
    (λ e. rw (e, members_from) (members_flagged n (suc i) f))
    (λ e. rw (e, members_from) (eqb-false (f i) 0 e & members_flagged n (suc i) f))

members_hold : (s : Set) → Each (λ m. So (s (abstract_of m))) (members_from 0 (set_flags s))
unfolding set_flags
members_hold s = each_imp (λ m d. either (s (abstract_of m)) (λ e. e) (λ e. absurd (d (rw e)))) (members_flagged member_limit 0 λ m. pick (s (abstract_of m)) 1 0)

-- ---- a table

module _ (t : Table) where
  pub table_size : (k n : ℕ) → length (table_flags k n t) ≡ k * member_limit
  unfolding table_flags collect counting
  table_size zero n = refl
  table_size (suc k) n = simp (length-append, flags_size, table_size k (suc n)) (omega arith)

  -- the flags of the lines are those of the table
  pub entries_flags : sets_bytes (entries_of t) ≡ table_flags row_limit 0 t
  unfolding entries_of table_flags
  entries_flags =
      let s = table_flags row_limit 0 t in
      let size : length s ≡ sets_size = table_size row_limit 0 in
      let all : take sets_size s ≡ s = take_all sets_size s (omega arith) in
      (sets_iff s (omega arith)).0 ((below_iff 2 (take sets_size s)).1 (rw all (each_collect (λ n. set_flags (t n)) (λ n. flags_low (t n)) (counting row_limit 0 λ n. n)))) ∙ all

  -- what the lines hold the table holds
  entries_from_lem : (k n : ℕ) → Each (λ e. So (present e.members) × Each (λ m. So (t e.key (abstract_of m))) e.members) (decode_sets k n (table_flags k n t))
  unfolding table_flags decode_sets collect counting
  entries_from_lem zero n = nil
  entries_from_lem (suc k) n =
      rw (take_at (set_flags (t n)) (table_flags k (suc n) t) member_limit (flags_size (t n)), drop_at (set_flags (t n)) (table_flags k (suc n) t) member_limit (flags_size (t n)))
      (entry n (members_from 0 (set_flags (t n))) (decode_sets k (suc n) (table_flags k (suc n) t)) (members_hold (t n)) (entries_from_lem k (suc n)))
    where
      entry : (n : ℕ) (ms : List ℕ) (es : List Entry) → Each (λ m. So (t n (abstract_of m))) ms
          → Each (λ e. So (present e.members) × Each (λ m. So (t e.key (abstract_of m))) e.members) es
          → Each (λ e. So (present e.members) × Each (λ m. So (t e.key (abstract_of m))) e.members) (with_entry n ms es)
      entry n [] es h k = unfold with_entry in k
      entry n (m ∷ ms) es h k = unfold with_entry present in (refl, h) & k

  pub entries_hold : Each (λ e. So (present e.members) × Each (λ m. So (t e.key (abstract_of m))) e.members) (entries_of t)
  unfolding entries_of
  entries_hold = entries_from_lem row_limit 0

  members_at_lem : (n : ℕ) → n < row_limit → members_at (entries_of t) n ≡ members_from 0 (set_flags (t n))
  unfolding entries_of table_flags
  members_at_lem n l =
      let s = table_flags row_limit 0 t in
      let size : length s ≡ sets_size = table_size row_limit 0 in
      ap (members_at (decode_sets row_limit 0 s)) (sym (zero-add n)) ∙ set_again row_limit 0 s n l
      ∙ ap (members_from 0) (sym ((chunks_iff member_limit (λ n. set_flags (t n)) (λ n. flags_size (t n)) row_limit (λ n. n) s).0 (sym (take_all sets_size s (omega arith))) n l))

  members_past : (n : ℕ) → row_limit ≤ n → members_at (entries_of t) n ≡ []
  unfolding entries_of
  members_past n l = members_none n (decode_sets row_limit 0 (table_flags row_limit 0 t)) (each_imp (λ e h d. omega arith) (sets_within row_limit 0 (table_flags row_limit 0 t)).0)

  not_so : (b : Bool) → (So b → ⊥) → false ≡ b
  not_so true h = absurd (h refl)
  not_so false h = refl

  -- the lines have the table's sets, where it stays below the limits
  pub entries_table : ((n : ℕ) (a : Abstract) → So (t n a) → (n < row_limit) × (member a < member_limit)) → table_of (entries_of t) ≡ t
  unfolding table_of elem
  entries_table low = fun_ext λ n. fun_ext λ a.
      elim (dec_lt n row_limit) [
        | yes l ↦ elim (dec_lt (member a) member_limit) [
          | yes k ↦ rw (members_at_lem n l) (elem_flags (t n) (member a) k ∙ ap (t n) (abstract_member a))
          | no k ↦ rw (members_at_lem n l) (elem_past (t n) (member a) (omega arith) ∙ not_so (t n a) (λ h. k (low n a h).1))
        ]
        | no l ↦ rw (members_past n (omega arith)) (not_so (t n a) (λ h. l (low n a h).0))
      ]
