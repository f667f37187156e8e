-- Sets of bytes that take the members of other sets.
use Prim.Native.Nat.{ℕ, zero, suc, ◌+◌, ◌-◌, ◌<◌, ◌≤◌, max, min}
use native.Mathlib.Omega.{arith}
use native.Mathlib.Decide.{dec_lt}
use native.Mathlib.Numerals.{add-one}
use mathlib.Core.Bool.{false, ◌||◌, and-false}
use mathlib.Core.Path.{◌≡◌, refl, ◌∙◌}
use lib.ListN.{length, replicate, length-replicate}
use lib.Dec.{ltb, leb}
use borrow.Author.Tests.{lt-ltb}
use Rattle.program.specs.Test.{any}
use Rattle.program.specs.Flow.{Abstract, row, Set}
use Rattle.format.specs.Text.{Bytes, byte_at}
use Rattle.format.specs.Document.{member}
use Rattle.calls.specs.Layout.{member_limit}
use Rattle.store.proofs.Laws.{zeros_at}
use Rattle.sets.specs.Sets.{Bytewise, set_of}
use Rattle.sets.proofs.Members.{set_full, set_short}
use Rattle.received.specs.Received.{Takes, Gathered, Free}

-- ---- one set

pub takes_none : (t : Set) (s : Bytes) → ((a : Abstract) → t a ≡ false) → Takes t s s
takes_none t s h = record { size = refl; low = λ l. l; members = λ a m. rw (h a) }

pub takes_as : (t t' : Set) {s s' : Bytes} → ((a : Abstract) → t' a ≡ t a) → Takes t s s' → Takes t' s s'
takes_as t t' h k = record { size = k.size; low = k.low; members = λ a m. rw (h a) (k.members a m) }

pub takes_short : (other s : Bytes) → length other < member_limit → Takes (set_of other) s s
takes_short other s h = takes_none _ s (λ a. rw (set_short other h))

-- a byte of 0 or 1 joined to another
abbrev pub joined : ℕ → ℕ → ℕ
joined a b = max a (min b 1)

max_or : (a b : ℕ) → ltb 0 (max a (min b 1)) ≡ ltb 0 b || ltb 0 a
max_or zero zero = refl
max_or (suc a) zero = let q : max (suc a) (min 0 1) ≡ suc a = omega arith in rw q
max_or a (suc b) = rw (lt-ltb 0 (max a (min (suc b) 1)) (omega arith), lt-ltb 0 (suc b) (omega arith))

pub taken_all : {i : ℕ} {other s s' : Bytes} → Bytewise joined i other s s' → i ≡ member_limit → member_limit ≤ length other → member_limit ≤ length s → Takes (set_of other) s s'
taken_all {i} {other} {s} {s'} h e k l = record {
  size = h.size;
  low = λ z q. elim (dec_lt q i) [
    | yes m ↦ (let v = h.done q m in let w = z q in omega arith)
    | no g ↦ (let v = h.behind q (omega arith) in let w = z q in omega arith)
  ];
  members = λ a m. rw (set_full s' (omega (arith, h.size)), set_full s l, set_full other k, h.done (member a) (omega arith)) (max_or (byte_at s (member a)) (byte_at other (member a)));
}

-- ---- the sets in turn

pub gathered_none : (f : ℕ → Set) → Gathered 0 f (replicate member_limit 0)
unfolding any
gathered_none f = record {
  size = length-replicate {A = ℕ} member_limit 0;
  low = λ i. rw (zeros_at member_limit i) (omega arith);
  members = λ a m. rw (set_full (replicate member_limit 0) (omega (arith, length-replicate {A = ℕ} member_limit 0)), zeros_at member_limit (member a));
}

pub gathered_more : {k : ℕ} {f : ℕ → Set} {s s' : Bytes} → Gathered k f s → Takes (f k) s s' → Gathered (k + 1) f s'
unfolding any
gathered_more {k} {f} h t = record { size = t.size ∙ h.size; low = t.low h.low; members = λ a m. rw (add-one, ← (h.members a m)) (t.members a m) }

-- sets that have nothing are passed over
gathered_over : {k : ℕ} {f : ℕ → Set} {s : Bytes} (n : ℕ) → Gathered k f s → ((i : ℕ) → k ≤ i → i < k + n → (a : Abstract) → f i a ≡ false) → Gathered (k + n) f s
gathered_over {k} zero h none = let q : k + 0 ≡ k = omega arith in rw q h
gathered_over {k} {f} {s} (suc n) h none =
    let q : k + suc n ≡ (k + n) + 1 = omega arith in
    rw q (gathered_more (gathered_over n h (λ i l m. none i l (omega arith))) (takes_none (f (k + n)) s (none (k + n) (omega arith) (omega arith))))

pub gathered_block : {k : ℕ} {f : ℕ → Set} {s : Bytes} (n rows : ℕ) → k ≤ rows → Gathered k f s → ((i : ℕ) → k ≤ i → i < k + n → (a : Abstract) → f i a ≡ false)
    → Gathered (min (k + n) rows) f s
gathered_block {k} n rows l h none =
    let m = min (k + n) rows - k in
    let q : min (k + n) rows ≡ k + m = omega arith in
    rw q (gathered_over m h (λ i l b. none i l (omega arith)))

-- ---- rows that are not in a set

pub free_none : (s : Bytes) (k : ℕ) → Free s k 0
unfolding Free
free_none s k r l m = absurd (omega arith)

pub free_more : (s : Bytes) (k i found : ℕ) → (found ≡ 0 → Free s k i) → max found (byte_at s (k + 1 + i)) ≡ 0 → Free s k (i + 1)
unfolding Free
free_more s k i found h e r l m =
    elim (dec_lt r (k + i)) [
      | yes b ↦ h (omega arith) r l b
      | no g ↦ (let q : r + 1 ≡ k + 1 + i = omega arith in rw q (omega arith))
    ]

pub free_row : (s : Bytes) (k n : ℕ) → Free s k n → (r : ℕ) → k ≤ r → r < k + n → set_of s (row r) ≡ false
unfolding Free set_of member
free_row s k n h r l m = rw (← (add-one r), h r l m) (and-false (leb member_limit (length s)))
