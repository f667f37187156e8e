-- The first rows of a store, tested from the last down.
use Prim.Native.Nat.{ℕ, ◌+◌, ◌*◌, ◌-◌, ◌≤◌}
use native.Mathlib.Omega.{arith}
use native.Mathlib.Numerals.{add-one}
use mathlib.Core.Bool.{true, false, ◌&&◌}
use mathlib.Core.Path.{◌≡◌, sym, ap, ◌∙◌}
use lib.ListN.{take, drop}
use Rattle.program.specs.Test.{all}
use Rattle.format.specs.Text.{Bytes}
use Rattle.calls.specs.Layout.{row_size}
use Rattle.calls.specs.Canonical.{row_sound, rows_sound}
use Rattle.store.proofs.Laws.{row_part}

-- the rows below one that is sound are what is left to test
abbrev pub SoundTo : Bytes → ℕ → ℕ → Type 0
SoundTo s n left = rows_sound n s ≡ rows_sound left s

abbrev row_at : Bytes → ℕ → Bytes
row_at s r = take row_size (drop (r * row_size) s)

rows_step : (s : Bytes) (r : ℕ) → rows_sound (r + 1) s ≡ (row_sound (row_at s r) && rows_sound r s)
unfolding rows_sound all
rows_step s r = rw (add-one r)

part_is : (s : Bytes) (r : ℕ) → row_part s r ≡ row_at s r
part_is s r = let q : r * row_size + row_size - r * row_size ≡ row_size = omega arith in rw q

pub rows_go : (s : Bytes) (n r : ℕ) → SoundTo s n (r + 1) → row_sound (row_part s r) ≡ true → SoundTo s n r
rows_go s n r h e = h ∙ rows_step s r ∙ rw (← part_is s r, e)

pub rows_fail : (s : Bytes) (n r : ℕ) → SoundTo s n (r + 1) → row_sound (row_part s r) ≡ false → false ≡ rows_sound n s
rows_fail s n r h e = sym (h ∙ rows_step s r ∙ rw (← part_is s r, e))

pub rows_end : (s : Bytes) (n r : ℕ) → r ≤ 0 → SoundTo s n r → true ≡ rows_sound n s
unfolding rows_sound all
rows_end s n r l h = let q : r ≡ 0 = omega arith in sym (h ∙ ap (λ (m : ℕ). rows_sound m s) q)
