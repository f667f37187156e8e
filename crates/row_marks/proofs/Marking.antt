-- Sets of rows as bytes: what a loop over them finds.
use Prim.Native.Nat.{ℕ, ◌+◌, ◌≤◌, ◌<◌, max, min}
use native.Mathlib.Omega.{arith}
use native.Mathlib.Numerals.{add-one}
use native.Mathlib.Decide.{dec_lt, ℕ_discrete as dec_eq}
use mathlib.Core.Bool.{Bool, false, ◌&&◌, ◌||◌}
use mathlib.Core.Path.{◌≡◌, sym, ◌∙◌, fun_ext}
use lib.Dec.{ltb}
use borrow.Author.Tests.{lt-ltb, le-ltb}
use Rattle.program.specs.Test.{any}
use Rattle.format.specs.Limits.{row_limit}
use Rattle.format.specs.Text.{Bytes, byte_at}
use Rattle.row_marks.specs.RowMarks.{on, marked, Marked, three_meet, NoneMarked}

-- ---- the larger and the smaller of two bytes

pub over_max : (x y : ℕ) → ltb 0 (max x y) ≡ (ltb 0 y || ltb 0 x)
over_max x y =
    elim (dec_lt 0 y) [
      | yes l ↦ rw (lt-ltb 0 y l, lt-ltb 0 (max x y) (omega arith))
      | no g ↦
          rw (le-ltb 0 y (omega arith))
          (elim (dec_lt 0 x) [
            | yes l ↦ rw (lt-ltb 0 x l, lt-ltb 0 (max x y) (omega arith))
            | no h ↦ rw (le-ltb 0 x (omega arith), le-ltb 0 (max x y) (omega arith))
          ])
    ]

over_min : (x y : ℕ) → ltb 0 (min x y) ≡ ltb 0 x && ltb 0 y
over_min x y =
    elim (dec_lt 0 x) [
      | yes l ↦
          rw (lt-ltb 0 x l)
          (elim (dec_lt 0 y) [
            | yes h ↦ rw (lt-ltb 0 y h, lt-ltb 0 (min x y) (omega arith))
            | no g ↦ rw (le-ltb 0 y (omega arith), le-ltb 0 (min x y) (omega arith))
          ])
      | no g ↦ rw (le-ltb 0 x (omega arith), le-ltb 0 (min x y) (omega arith))
    ]

module _ (i found : ℕ) {next : ℕ} where
  pub three_more : (a b c : Bytes) {x y : ℕ} → ltb 0 found ≡ three_meet i a b c → x ≡ min (byte_at b i) (byte_at c i) → y ≡ min (byte_at a i) x → next ≡ max found y
      → ltb 0 next ≡ three_meet (i + 1) a b c
  unfolding three_meet any on
  three_more a b c {x} {y} h p q r =
      let e : ltb 0 x ≡ ltb 0 (byte_at b i) && ltb 0 (byte_at c i) = rw p (over_min (byte_at b i) (byte_at c i)) in
      let d : ltb 0 y ≡ ltb 0 (byte_at a i) && ltb 0 x = rw q (over_min (byte_at a i) x) in
      rw (add-one i, r, over_max found y, d, e, h)

-- ---- the set that bytes mark

-- of the first n rows and past them
pub marked_in : (n : ℕ) (marks : Bytes) (r : ℕ) → r < n → on marks r ≡ marked n marks r
unfolding marked
marked_in n marks r l = rw (lt-ltb r n l)

pub marked_past : (n : ℕ) (marks : Bytes) (r : ℕ) → n ≤ r → marked n marks r ≡ false
unfolding marked
marked_past n marks r l = rw (le-ltb r n l)

-- it is any set whose rows are marked and are below n
pub marked_is : (n : ℕ) {f : ℕ → Bool} {marks : Bytes} → Marked n f marks → ((r : ℕ) → n ≤ r → f r ≡ false) → marked n marks ≡ f
marked_is n {f} {marks} m past =
    fun_ext λ r.
    elim (dec_lt r n) [
      | yes l ↦ sym (marked_in n marks r l) ∙ m.rows r l
      | no l ↦ marked_past n marks r (omega arith) ∙ sym (past r (omega arith))
    ]

-- ---- no row is marked

pub unmarked_more : (marks : Bytes) (i found : ℕ) {next : ℕ} → (found ≡ 0 → (r : ℕ) → r < i → byte_at marks r ≡ 0) → next ≡ max found (byte_at marks i)
    → next ≡ 0 → (r : ℕ) → r < i + 1 → byte_at marks r ≡ 0
unmarked_more marks i found h e z r l =
    elim (dec_eq r i) [
      | yes q ↦ rw q (omega arith)
      | no d ↦ h (omega arith) r (omega arith)
    ]

pub unmarked_all : (marks : Bytes) → ((r : ℕ) → r < row_limit → byte_at marks r ≡ 0) → NoneMarked marks
unfolding NoneMarked on
unmarked_all marks h r l = rw (h r l)
