-- The sets that are read from a store: they rise and stay below the limit, and are the bytes again exactly if these are flags.
use Prim.Native.Nat.{ℕ, zero, suc, ◌+◌, ◌*◌, ◌≤◌, ◌<◌}
use native.Mathlib.Omega.{arith}
use native.Mathlib.Nat.{add-zero, suc-add, add-suc, zero-add}
use mathlib.Core.Bool.{false, not, ◌&&◌, So}
use mathlib.Core.List.{List, [], ◌∷◌, map, map-id}
use mathlib.Core.Path.{◌≡◌, refl, sym, ap, ◌∙◌}
use mathlib.Core.Logic.{◌≢◌, ◌↔◌}
use lib.ListN.{length, get_or, take, drop, length-take, length-drop}
use lib.Dec.{ltb, eqb, lit<}
use borrow.Author.Tests.{eqb-true, eqb-false, eq-eqb, ne_eqb}
use Rattle.program.specs.Test.{pick}
use Rattle.program.specs.Each.{every, elem, Each, nil, ◌&◌}
use Rattle.program.proofs.Test.{and_intro}
use Rattle.program.proofs.Each.{each_imp, each_both, each_map}
use Rattle.format.specs.Limits.{row_limit}
use Rattle.format.specs.Text.{Bytes}
use Rattle.format.specs.Document.{Entry, flow, comm, members_at}
use Rattle.format.specs.Read.{present, rising, set_rows, line_numbers, above_limit}
use Rattle.format.specs.WellFormed.{entries_rise}
use Rattle.calls.specs.Layout.{member_limit, sets_size, counting, sets_bytes, flags_of, members_from, with_entry, decode_sets}
use Rattle.calls.proofs.Codec.Sparse.{either, counting_each, Within}
use Rattle.calls.proofs.Codec.Sets.{flags_length}
use Rattle.calls.proofs.Canonical.Lists.{every_intro, counting_is, drop_part, chunks_iff, each_part, within_skip, within_cons, within_below, each_collect, low_line, below_iff}

members_within : (i : ℕ) (fs : Bytes) → Within (λ m. m) i (length fs) (members_from i fs)
unfolding members_from rising
members_within i [] = (nil, refl)
members_within i (b ∷ fs) =
    either (eqb b 0)
    (λ e. rw (e, members_from) (within_skip (λ m. m) i (length fs) (members_within (suc i) fs)))
    (λ e. rw (e, members_from) (within_cons (λ m. m) i (length fs) i refl (members_within (suc i) fs)))

elem_below : (k : ℕ) (ms : List ℕ) → Each (λ m. k < m) ms → elem k ms ≡ false
unfolding elem
elem_below k [] nil = refl
elem_below k (m ∷ ms) (l & h) = rw (ne_eqb k m (omega arith)) (elem_below k ms h)

-- a byte of 0 or 1 is the flag of its member
pub flag_again : (i : ℕ) (fs : Bytes) → Each (λ b. b < 2) fs → (j : ℕ) → pick (elem (i + j) (members_from i fs)) 1 0 ≡ get_or fs j 0
unfolding members_from elem
flag_again i [] h j = refl
flag_again i (b ∷ fs) (l & h) zero =
    let none : elem i (members_from (suc i) fs) ≡ false = elem_below i (members_from (suc i) fs) (within_below (λ m. m) (suc i) (length fs) i (omega arith) (members_within (suc i) fs)) in
    either (eqb b 0)
    (λ e. rw (e, members_from, add-zero, none, eqb-true b 0 e))
    (λ e. let one : b ≡ 1 = omega (arith, eqb-false b 0 e) in rw (e, members_from, add-zero, eq-eqb i i refl, one))
flag_again i (b ∷ fs) (l & h) (suc j) =
    either (eqb b 0)
    (λ e. rw (e, members_from, add-suc, ← suc-add) (flag_again (suc i) fs h j))
    (λ e. let next : i + suc j ≡ suc i + j = omega arith in rw (e, members_from, ne_eqb (i + suc j) i (omega arith)) (rw (← next) at (flag_again (suc i) fs h j)))

flags_again : (fs : Bytes) → length fs ≡ member_limit → Each (λ b. b < 2) fs → flags_of (members_from 0 fs) ≡ fs
unfolding flags_of
flags_again fs e h = counting_is member_limit 0 _ 0 fs e (flag_again 0 fs h)

-- ---- sets

rows_below : (limit : ℕ) {ms : List ℕ} → Each (λ m. m < limit + 1) ms → Each (λ r. r < limit) (set_rows ms)
unfolding set_rows
rows_below limit nil = nil
rows_below limit (◌&◌ {x = zero} l h) = rows_below limit h
rows_below limit (◌&◌ {x = suc r} l h) = ◌&◌ {x = r} (omega arith) (rows_below limit h)

-- what is read of a set: members that are there and rise, and rows below the limit
abbrev Fine : Entry → Type 0
Fine e = So (present e.members && rising e.members) × Each (λ r. r < row_limit) (set_rows e.members)

fine_entry : (n : ℕ) (ms : List ℕ) (es : List Entry) → So (rising ms) → Each (λ r. r < row_limit) (set_rows ms) → Each Fine es → Each Fine (with_entry n ms es)
unfolding with_entry present
fine_entry n [] es up low h = h
fine_entry n (m ∷ ms) es up low h = (up, low) & h

members_fine : (n : ℕ) (fs : Bytes) (es : List Entry) → length fs ≤ member_limit → Each Fine es → Each Fine (with_entry n (members_from 0 fs) es)
members_fine n fs es l h =
    let (low, up) = members_within 0 fs in
    fine_entry n (members_from 0 fs) es (rw map-id at up) (rows_below row_limit (each_imp (λ m t. omega arith) low)) h

sets_fine : (k n : ℕ) (s : Bytes) → Each Fine (decode_sets k n s)
unfolding decode_sets
sets_fine zero n s = nil
sets_fine (suc k) n s = members_fine n (take member_limit s) (decode_sets k (suc n) (drop member_limit s)) (rw length-take (omega arith)) (sets_fine k (suc n) (drop member_limit s))

abbrev pub key_of : Entry → ℕ
key_of e = e.key

with_entry_within : (n k : ℕ) (ms : List ℕ) {es : List Entry} → Within key_of (suc n) k es → Within key_of n (suc k) (with_entry n ms es)
unfolding with_entry
with_entry_within n k [] h = within_skip key_of n k h
with_entry_within n k (m ∷ ms) h = within_cons key_of n k (record { key = n; members = m ∷ ms }) refl h

pub sets_within : (k n : ℕ) (s : Bytes) → Within key_of n k (decode_sets k n s)
unfolding decode_sets rising
sets_within zero n s = (nil, refl)
sets_within (suc k) n s = with_entry_within n k (members_from 0 (take member_limit s)) (sets_within k (suc n) (drop member_limit s))

pub members_none : (n : ℕ) (es : List Entry) → Each (λ e. n ≢ e.key) es → members_at es n ≡ []
unfolding members_at
members_none n [] nil = refl
members_none n (e ∷ es) (d & h) = rw (ne_eqb n e.key d, members_at) (members_none n es h)

pub members_here : (n : ℕ) (ms : List ℕ) (es : List Entry) → Each (λ e. n < e.key) es → members_at (with_entry n ms es) n ≡ ms
unfolding with_entry members_at
members_here n [] es h = members_none n es (each_imp (λ e l. omega arith) h)
members_here n (m ∷ ms) es h = rw (eq-eqb n n refl, members_at)

pub members_past : (n c : ℕ) (ms : List ℕ) (es : List Entry) → c ≢ n → members_at (with_entry n ms es) c ≡ members_at es c
unfolding with_entry members_at
members_past n c [] es d = refl
members_past n c (m ∷ ms) es d = rw (ne_eqb c n d, members_at)

-- the set at each place
pub set_again : (k n : ℕ) (s : Bytes) (j : ℕ) → j < k → members_at (decode_sets k n s) (n + j) ≡ members_from 0 (take member_limit (drop (j * member_limit) s))
unfolding decode_sets
set_again zero n s j l = absurd (omega arith)
set_again (suc k) n s zero l =
    let es = decode_sets k (suc n) (drop member_limit s) in
    rw add-zero (members_here n (members_from 0 (take member_limit s)) es (within_below key_of (suc n) k n (omega arith) (sets_within k (suc n) (drop member_limit s))))
set_again (suc k) n s (suc j) l =
    members_past n (n + suc j) (members_from 0 (take member_limit s)) (decode_sets k (suc n) (drop member_limit s)) (omega arith)
    ∙ rw (add-suc n j, ← suc-add n j) (set_again k (suc n) (drop member_limit s) j (omega arith) ∙ rw (drop_part member_limit j s))

sets_again : (s : Bytes) → sets_size ≤ length s → Each (λ b. b < 2) (take sets_size s) → sets_bytes (decode_sets row_limit 0 s) ≡ take sets_size s
unfolding sets_bytes
sets_again s fits h =
    let es = decode_sets row_limit 0 s in
    (chunks_iff member_limit (λ n. flags_of (members_at es n)) (λ n. flags_length (members_at es n)) row_limit (λ n. n) s).1 λ j l.
    let part = take member_limit (drop (j * member_limit) s) in
    ap (λ (n : ℕ). flags_of (members_at es n)) (sym (zero-add j)) ∙ ap flags_of (set_again row_limit 0 s j l)
    ∙ flags_again part (simp (length-take, length-drop) (omega arith)) (each_part sets_size (j * member_limit) member_limit s (omega arith) h)

flag_range : (ms : List ℕ) → Each (λ b. b < 2) (flags_of ms)
unfolding flags_of
flag_range ms = counting_each member_limit 0 _ λ k. either (elem k ms) (λ e. rw e (lit< tt)) (λ e. rw e (lit< tt))

-- the test of a part with sets
pub sets_iff : (s : Bytes) → sets_size ≤ length s → So (every (λ b. ltb b 2) (take sets_size s)) ↔ (sets_bytes (decode_sets row_limit 0 s) ≡ take sets_size s)
unfolding sets_bytes
sets_iff s fits = (
  λ t. sets_again s fits ((below_iff 2 (take sets_size s)).0 t),
  λ q. (below_iff 2 (take sets_size s)).1 (rw q at (each_collect (λ n. flags_of (members_at (decode_sets row_limit 0 s) n)) (λ n. flag_range _) (counting row_limit 0 λ n. n))),
)

-- the lines of the sets that are read
module _ (s : Bytes) where
  pub sets_rise : So (entries_rise (decode_sets row_limit 0 s))
  unfolding entries_rise
  sets_rise = and_intro (sets_within row_limit 0 s).1 (every_intro (λ e. present e.members && rising e.members) (each_imp (λ e h. h.0) (sets_fine row_limit 0 s)))

  sets_low : Each (λ e. Each (λ n. n < row_limit) (e.key ∷ set_rows e.members)) (decode_sets row_limit 0 s)
  sets_low = each_imp (λ e h. omega arith & h.1.1) (each_both (sets_within row_limit 0 s).0 (sets_fine row_limit 0 s))

  pub flow_lines : So (every (λ l. not (above_limit l)) (map flow (decode_sets row_limit 0 s)))
  unfolding line_numbers
  flow_lines = every_intro (λ l. not (above_limit l)) (each_map flow (each_imp (λ e h. low_line (flow e) h) sets_low))

  pub comm_lines : So (every (λ l. not (above_limit l)) (map comm (decode_sets row_limit 0 s)))
  unfolding line_numbers
  comm_lines = every_intro (λ l. not (above_limit l)) (each_map comm (each_imp (λ e h. low_line (comm e) h) sets_low))
