-- What stands behind the rows of a store, and the tests of its rows in turn.
use Prim.Native.Nat.{ℕ, zero, suc, ◌*◌, ◌-◌, ◌<◌}
use native.Mathlib.Omega.{arith}
use mathlib.Core.Bool.{Bool, true, false, ◌&&◌}
use mathlib.Core.List.{[], ◌∷◌}
use mathlib.Core.Path.{◌≡◌, refl, sym, ap, ◌∙◌}
use lib.ListN.{take, drop}
use lib.Seq.{take-nil}
use lib.Dec.{ltb}
use borrow.Author.Tests.{lt-ltb, le-ltb}
use Rattle.format.specs.Text.{Bytes}
use Rattle.calls.specs.Layout.{row_size, rows_size}
use Rattle.calls.specs.Canonical.{rows_sound, rest_zero}
use Rattle.byte_tests.proofs.Below.{below_zero, Below}

-- ---- the rest

drop-take : (m n : ℕ) (s : Bytes) → drop m (take n s) ≡ take (n - m) (drop m s)
drop-take zero n s = let q : n - 0 ≡ n = omega arith in rw q
drop-take (suc m) zero s = let q : zero - suc m ≡ zero = omega arith in rw q
drop-take (suc m) (suc n) [] = sym (take-nil (suc n - suc m))
drop-take (suc m) (suc n) (x ∷ xs) = let q : suc n - suc m ≡ n - m = omega arith in rw q (drop-take m n xs)

pub rest_is : (s : Bytes) (n : ℕ) → rest_zero n s ≡ Below 1 (take (rows_size - n * row_size) (drop (n * row_size) s))
unfolding rest_zero
rest_is s n = below_zero (drop (n * row_size) (take rows_size s)) ∙ ap (Below 1) (drop-take (n * row_size) rows_size s)

-- ---- the tests in turn

module _ (s : Bytes) (n : ℕ) where
  abbrev pub Tests : Bool
  Tests = ltb 0 n && rows_sound n s && rest_zero n s

  abbrev pub rest_part : Bytes
  rest_part = take (rows_size - n * row_size) (drop (n * row_size) s)

  above : (n ≡ 0 → ⊥) → ltb 0 n ≡ true
  above h = lt-ltb 0 n (go n h)
    where
      go : (m : ℕ) → (m ≡ 0 → ⊥) → 0 < m
      go zero f = absurd (f refl)
      go (suc m) f = omega arith

  pub no_rows : n ≡ 0 → false ≡ Tests
  no_rows e = rw (e, le-ltb 0 0 (omega arith))

  pub rows_unsound : (n ≡ 0 → ⊥) → rows_sound n s ≡ false → false ≡ Tests
  rows_unsound some r = rw (above some, r)

  pub rest_decides : (n ≡ 0 → ⊥) → rows_sound n s ≡ true → Below 1 rest_part ≡ Tests
  rest_decides some r = rw (above some, r, rest_is s n)
