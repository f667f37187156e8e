-- Rows counted from a row on.
use Prim.Native.Nat.{ℕ, suc, ◌+◌, ◌*◌, ◌-◌, ◌≤◌, ◌<◌}
use native.Mathlib.Omega.{arith}
use mathlib.Core.Bool.{false}
use mathlib.Core.Path.{◌≡◌, sym, ◌∙◌}
use lib.ListN.{get_or, drop}
use lib.Seq.{drop-drop}
use lib.Dec.{eqb}
use native.Mathlib.Nat.{add-zero}
use borrow.Author.Tests.{eq-eqb, ne_eqb}
use Rattle.format.specs.Text.{Bytes, byte_at}
use Rattle.format.specs.Limits.{row_limit}
use Rattle.calls.specs.Layout.{row_size}
use Rattle.calls.specs.Canonical.{count_rows}
use Rattle.store.proofs.Laws.{kind_at}

count_stops : (s : Bytes) (r k : ℕ) → byte_at s (r * row_size) ≡ 0 → count_rows (suc k) (drop (r * row_size) s) ≡ 0
unfolding count_rows
count_stops s r k e = rw (eq-eqb _ _ (kind_at s (r * row_size) ∙ e))

count_goes : (s : Bytes) (r k : ℕ) → (byte_at s (r * row_size) ≡ 0 → ⊥) → count_rows (suc k) (drop (r * row_size) s) ≡ suc (count_rows k (drop ((r + 1) * row_size) s))
unfolding count_rows
count_goes s r k ne =
    let q : r * row_size + row_size ≡ (r + 1) * row_size = omega arith in
    let e : eqb (get_or (drop (r * row_size) s) 0 0) 0 ≡ false = rw (kind_at s (r * row_size)) (ne_eqb _ _ ne) in
    rw (e, drop-drop, q)

-- what has been counted before row r, and what is left
abbrev pub CountedTo : Bytes → ℕ → Type 0
CountedTo s r = count_rows row_limit s ≡ r + count_rows (row_limit - r) (drop (r * row_size) s)

pub counted_none : (s : Bytes) → CountedTo s 0
counted_none s = omega arith

pub counted_stops : (s : Bytes) (r : ℕ) → r < row_limit → byte_at s (r * row_size) ≡ 0 → CountedTo s r → r ≡ count_rows row_limit s
counted_stops s r l e h =
    let q : row_limit - r ≡ suc (row_limit - (r + 1)) = omega arith in
    let z : count_rows (row_limit - r) (drop (r * row_size) s) ≡ 0 = rw q (count_stops s r (row_limit - (r + 1)) e) in
    omega (arith, h, z)

pub counted_goes : (s : Bytes) (r : ℕ) → r < row_limit → (byte_at s (r * row_size) ≡ 0 → ⊥) → CountedTo s r → CountedTo s (r + 1)
counted_goes s r l e h =
    let q : row_limit - r ≡ suc (row_limit - (r + 1)) = omega arith in
    let z : count_rows (row_limit - r) (drop (r * row_size) s) ≡ suc (count_rows (row_limit - (r + 1)) (drop ((r + 1) * row_size) s)) = rw q (count_goes s r (row_limit - (r + 1)) e) in
    omega (arith, h, z)

pub counted_all : (s : Bytes) (r : ℕ) → row_limit ≤ r → r ≤ row_limit → CountedTo s r → row_limit ≡ count_rows row_limit s
unfolding count_rows
counted_all s r l m h = let e : r ≡ row_limit = omega arith in sym (h ∙ rw e (add-zero row_limit))
