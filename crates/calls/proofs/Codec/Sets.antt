-- The sets of the store: flags decode to their members, and the sets of all names to the entries.
use Prim.Native.Nat.{ℕ, zero, suc, ◌+◌, ◌*◌, ◌<◌}
use native.Mathlib.Omega.{arith}
use mathlib.Core.Bool.{Bool, ◌&&◌, So, false≢true}
use mathlib.Core.List.{List, [], ◌∷◌, ◌++◌, map, map-id, append_assoc}
use mathlib.Core.Path.{◌≡◌, refl, ap, ◌∙◌}
use Rattle.std.specs.Prelude.{Option, None as none, Some as some}
use lib.ListN.{length, length-append}
use lib.Seq.{take_at, drop_at}
use lib.Dec.{eqb, lit<}
use borrow.Author.Tests.{eqb-true}
use Rattle.program.specs.Test.{pick}
use Rattle.program.specs.Each.{every, collect, elem, Each, nil, ◌&◌}
use Rattle.program.proofs.Test.{and_left, and_right}
use Rattle.program.proofs.Each.{every_elim, each_imp, each_both, each_append}
use Rattle.format.specs.Limits.{row_limit}
use Rattle.format.specs.Text.{Bytes}
use Rattle.format.specs.Document.{Entry, members_at}
use Rattle.format.specs.Read.{present, rising, set_rows}
use Rattle.format.specs.WellFormed.{entries_rise}
use Rattle.calls.specs.Layout.{member_limit, sets_size, counting, flags_of, sets_bytes, members_from, with_entry, decode_sets}
use Rattle.calls.proofs.Codec.Sparse.{either, counting-length, counting_each, gather, lookup, gather_back}
use Rattle.calls.proofs.Codec.Rows.{Byte}

-- the member of a byte
flagged : ℕ → ℕ → Option ℕ
flagged b m = pick (eqb b 0) none (some m)

members_gathered : (n i : ℕ) (f : ℕ → ℕ) → members_from i (counting n i f) ≡ gather n i (λ m. flagged (f m) m)
unfolding members_from counting gather flagged
members_gathered zero i f = refl
members_gathered (suc n) i f =
    either (eqb (f i) 0)
    (λ e. rw (e, members_from, gather) (members_gathered n (suc i) f))
    (λ e. rw (e, members_from, gather) (ap (λ ms. i ∷ ms) (members_gathered n (suc i) f)))

flag_lookup : (ms : List ℕ) (k : ℕ) → flagged (pick (elem k ms) 1 0) k ≡ lookup (λ m. m) ms k
unfolding flagged elem lookup
flag_lookup [] k = refl
flag_lookup (m ∷ ms) k = either (eqb k m) (λ e. rw (e, eqb-true k m e)) (λ e. rw e (flag_lookup ms k))

pub flags_length : (ms : List ℕ) → length (flags_of ms) ≡ member_limit
unfolding flags_of
flags_length ms = counting-length member_limit 0 _

flags_range : (ms : List ℕ) → Each Byte (flags_of ms)
unfolding flags_of
flags_range ms = counting_each member_limit 0 _ λ k. either (elem k ms) (λ e. rw e (lit< tt)) (λ e. rw e (lit< tt))

flags_back : (ms : List ℕ) → Each (λ m. m < member_limit) ms → So (rising ms) → members_from 0 (flags_of ms) ≡ ms
unfolding flags_of
flags_back ms h up =
    members_gathered member_limit 0 _
    ∙ gather_back (λ m. m) member_limit 0 _ ms (λ k l. flag_lookup ms k) (each_imp (λ m l. omega arith) h, rw map-id up)

-- the entry of a name and its members
entry_of : ℕ → List ℕ → Option Entry
entry_of n [] = none
entry_of n (m ∷ ms) = some (record { key = n; members = m ∷ ms })

with_entry_lem : (n : ℕ) (ms : List ℕ) (k : ℕ) (g : ℕ → Option Entry) → g n ≡ entry_of n ms → with_entry n ms (gather k (suc n) g) ≡ gather (suc k) n g
unfolding with_entry gather entry_of
with_entry_lem n [] k g e = rw (e, gather)
with_entry_lem n (m ∷ ms) k g e = rw (e, gather)

-- the sets of k names from n on, by their members
module _ (g : ℕ → List ℕ) where
  abbrev sets_from : ℕ → ℕ → Bytes
  sets_from k n = collect (λ n. flags_of (g n)) (counting k n λ n. n)

  sets_length : (k n : ℕ) → length (sets_from k n) ≡ k * member_limit
  unfolding collect counting
  sets_length zero n = refl
  sets_length (suc k) n = simp (length-append, flags_length, sets_length k (suc n)) (omega arith)

  sets_gathered : ((n : ℕ) → members_from 0 (flags_of (g n)) ≡ g n) → (k n : ℕ) (more : Bytes)
      → decode_sets k n (sets_from k n ++ more) ≡ gather k n (λ n. entry_of n (g n))
  unfolding collect counting decode_sets gather
  sets_gathered back zero n more = refl
  sets_gathered back (suc k) n more =
      let rest = sets_from k (suc n) ++ more in
      rw (
        append_assoc,
        take_at (flags_of (g n)) rest member_limit (flags_length (g n)),
        drop_at (flags_of (g n)) rest member_limit (flags_length (g n)),
        back n,
        sets_gathered back k (suc n) more,
      )
      (with_entry_lem n (g n) k (λ n. entry_of n (g n)) refl)

  sets_range : (k n : ℕ) → Each Byte (sets_from k n)
  unfolding collect counting
  sets_range zero n = nil
  sets_range (suc k) n = each_append (flags_range (g n)) (sets_range k (suc n))

-- where the rows of a set stay below a limit, its members stay below the next number
members_below : (limit : ℕ) (ms : List ℕ) → Each (λ r. r < limit) (set_rows ms) → Each (λ m. m < limit + 1) ms
unfolding set_rows
members_below limit [] h = nil
members_below limit (zero ∷ ms) h = ◌&◌ {x = zero} (omega arith) (members_below limit ms h)
members_below limit (suc r ∷ ms) (l & h) = ◌&◌ {x = suc r} (omega arith) (members_below limit ms h)

-- an entry that is read back: a key below a bound, members that are present, and that their flags give
record Kept (k : ℕ) (e : Entry) : Type 0 where
  low : e.key < k
  here : So (present e.members)
  back : members_from 0 (flags_of e.members) ≡ e.members

members_back : (es : List Entry) {k : ℕ} → Each (Kept k) es → (n : ℕ) → members_from 0 (flags_of (members_at es n)) ≡ members_at es n
unfolding members_at rising
members_back [] nil n = flags_back [] nil refl
members_back (e ∷ es) (h & hs) n =
    either (eqb n e.key) (λ q. rw (q, members_at) h.back) (λ q. rw (q, members_at) (members_back es hs n))

entry_present : (n : ℕ) (ms : List ℕ) → So (present ms) → entry_of n ms ≡ some (record { key = n; members = ms })
unfolding entry_of present
entry_present n [] t = absurd (false≢true t)
entry_present n (m ∷ ms) t = refl

entry_lookup : (es : List Entry) {k : ℕ} → Each (Kept k) es → (n : ℕ) → entry_of n (members_at es n) ≡ lookup (λ (e : Entry). e.key) es n
unfolding members_at lookup entry_of
entry_lookup [] nil n = refl
entry_lookup (e ∷ es) (h & hs) n =
    either (eqb n e.key)
    (λ q. rw (q, members_at, eqb-true n e.key q) (entry_present e.key e.members h.here))
    (λ q. rw (q, members_at) (entry_lookup es hs n))

-- the entries of a store with k names
sets_back : (k : ℕ) (es : List Entry) (more : Bytes) → Each (Kept k) es → So (rising (map (λ (e : Entry). e.key) es))
    → decode_sets k 0 (sets_from (members_at es) k 0 ++ more) ≡ es
sets_back k es more h up =
    sets_gathered (members_at es) (members_back es h) k 0 more
    ∙ gather_back (λ (e : Entry). e.key) k 0 _ es (λ n l. entry_lookup es h n) (each_imp (λ e t. omega arith) h, up)

kept : (e : Entry) → Each (λ n. n < row_limit) (e.key ∷ set_rows e.members) → So (present e.members && rising e.members) → Kept row_limit e
kept e (l & ls) t =
    record {
      low = l;
      here = and_left _ (rising e.members) t;
      back = flags_back e.members (members_below row_limit e.members ls) (and_right (present e.members) _ t);
    }

-- the same of the store's sets
module _ (es : List Entry) where
  pub sets_bytes-length : length (sets_bytes es) ≡ sets_size
  unfolding sets_bytes
  sets_bytes-length = sets_length (members_at es) row_limit 0

  pub sets_bytes_range : Each Byte (sets_bytes es)
  unfolding sets_bytes
  sets_bytes_range = sets_range (members_at es) row_limit 0

  pub sets_bytes_back : (more : Bytes) → Each (λ e. Each (λ n. n < row_limit) (e.key ∷ set_rows e.members)) es → So (entries_rise es)
      → decode_sets row_limit 0 (sets_bytes es ++ more) ≡ es
  unfolding sets_bytes entries_rise
  sets_bytes_back more h up =
      let keys = map (λ (e : Entry). e.key) es in
      let ok : Entry → Bool = λ e. present e.members && rising e.members in
      sets_back row_limit es more
      (each_imp (λ e t. kept e t.0 t.1) (each_both h (every_elim ok es (and_right (rising keys) _ up))))
      (and_left _ (every ok es) up)
