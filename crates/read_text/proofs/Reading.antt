-- What a byte that was read says of its position, and of a word that is looked for there.
use Prim.Native.Nat.{ℕ, zero, suc, ◌+◌, ◌<◌, ◌≤◌}
use mathlib.Core.Bool.{So}
use mathlib.Core.List.{[], ◌∷◌}
use Rattle.std.specs.Prelude.{None as none, Some as some}
use mathlib.Core.Path.{◌≡◌}
use native.Mathlib.Omega.{arith}
use native.Mathlib.Numerals.{add-one}
use lib.ListN.{length, drop, drop_of_length-le}
use lib.Seq.{drop-cons}
use borrow.Author.Tests.{eq-eqb, ne_eqb, ltb-true}
use Rattle.program.proofs.Test.{and_left, and_right}
use Rattle.format.specs.Text.{Bytes, byte_at, expect}
use Rattle.format.proofs.Stands.{inside}
use Rattle.read_text.specs.Reads.{no_zero}

-- each byte of a word with no 0
pub no_zero_at : (word : Bytes) (i : ℕ) → So (no_zero word) → i < length word → 0 < byte_at word i
no_zero_at [] i n h = absurd (omega arith)
no_zero_at (b ∷ bs) zero n h = ltb-true 0 b (search and_left)
no_zero_at (b ∷ bs) (suc i) n h = no_zero_at bs i (search and_right) (omega arith)

-- a word's byte stands inside the file
pub word_inside : (word s : Bytes) (i at : ℕ) → So (no_zero word) → i < length word → byte_at s at ≡ byte_at word i → at < length s
word_inside word s i at n h e = inside s at (rw e (no_zero_at word i n h))

-- the rest of a word at a position: its first byte stands there, another one does, or nothing is left
pub expect_step : (word s : Bytes) (i at : ℕ) → i < length word → byte_at s at ≡ byte_at word i → expect (drop i word) s at ≡ expect (drop (i + 1) word) s (at + 1)
unfolding expect
expect_step word s i at h e = rw (add-one i, drop-cons word i 0 h, eq-eqb (byte_at s at) (byte_at word i) e, expect)

pub expect_stop : (word s : Bytes) (i at : ℕ) → i < length word → (byte_at s at ≡ byte_at word i → ⊥) → expect (drop i word) s at ≡ none
unfolding expect
expect_stop word s i at h e = rw (drop-cons word i 0 h, ne_eqb (byte_at s at) (byte_at word i) e, expect)

pub expect_end : (word s : Bytes) (i at : ℕ) → length word ≤ i → expect (drop i word) s at ≡ some at
unfolding expect
expect_end word s i at h = rw (drop_of_length-le word h)
