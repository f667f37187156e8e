-- Writes one after the other: a sequence of writes leaves what one write of the texts, one after the other, leaves.
use Prim.Native.Nat.{ℕ, suc, ◌+◌, ◌<◌}
use mathlib.Core.List.{List, [], ◌∷◌, ◌++◌}
use mathlib.Core.Path.{◌≡◌, refl, sym, ap, ◌∙◌}
use native.Mathlib.Nat.{add-suc, suc-add, add-zero}
use native.Mathlib.Numerals.{add-one}
use native.Mathlib.Omega.{arith}
use lib.ListN.{length, set, take, get_or, length-append}
use lib.Seq.{sets, length-sets, take-suc, length-take-le}
use Rattle.write_bytes.specs.Write.{Room, Wrote}

-- a text and then another one, written behind it
pub sets_append : (l : List ℕ) (i : ℕ) (a b : List ℕ) → sets l i (a ++ b) ≡ sets (sets l i a) (i + length a) b
sets_append l i [] b = rw add-zero
sets_append l i (x ∷ a) b = sets_append (set l i x) (suc i) a b ∙ rw (suc-add, add-suc)

-- nothing written
pub nothing : {l : List ℕ} {i : ℕ} → Wrote l i [] i l
nothing = record { next_is = omega arith; left_is = refl }

-- two writes, the second where the first ended
pub then : {l m n a b : List ℕ} {i j k : ℕ} → Wrote l i a j m → Wrote m j b k n → Wrote l i (a ++ b) k n
then {l} {a = a} {b = b} {i = i} p q =
    record {
      next_is = omega (arith, p.next_is, q.next_is, length-append a b);
      left_is = q.left_is ∙ rw (p.left_is, p.next_is) (sym (sets_append l i a b));
    }

-- a write changes no length
pub wrote_length : {l m a : List ℕ} {i j : ℕ} → Wrote l i a j m → length m ≡ length l
wrote_length {l} {a = a} {i = i} p = ap length p.left_is ∙ length-sets l i a

-- room for both is room for each
pub room_first : (a b : List ℕ) {l : List ℕ} {i : ℕ} → Room l i (a ++ b) → Room l i a
room_first a b r = record { room = omega (arith, r.room, length-append a b) }

pub room_then : (b : List ℕ) {l m a : List ℕ} {i j : ℕ} → Wrote l i a j m → Room l i (a ++ b) → Room m j b
room_then b {a = a} p r = record { room = omega (arith, r.room, p.next_is, length-append a b, wrote_length p) }

-- a word of which the first i bytes are written: its next byte has room, and is written behind them
module _ (word : List ℕ) (i : ℕ) (h : i < length word) where
  pub room_next : {l m : List ℕ} {at j : ℕ} → Room l at word → Wrote l at (take i word) j m → Room m j (get_or word i 0 ∷ [])
  room_next r p = record { room = omega (arith, r.room, p.next_is, length-take-le i word (omega arith), wrote_length p) }

  pub then_next : {l m n : List ℕ} {at j k : ℕ} → Wrote l at (take i word) j m → Wrote m j (get_or word i 0 ∷ []) k n → Wrote l at (take (i + 1) word) k n
  then_next p q = rw (add-one, take-suc word i 0 h) (then p q)
