-- The texts in parts: what a loop writes in one turn, and what is left behind it.
use Prim.Native.Nat.{ℕ, suc, ◌+◌, ◌-◌, ◌*◌, ◌<◌, ◌≤◌}
use mathlib.Core.List.{[], ◌++◌}
use mathlib.Core.Path.{◌≡◌}
use native.Mathlib.Numerals.{add-one}
use native.Mathlib.Omega.{arith}
use lib.ListN.{length, get_or, take, drop, length-take, length-drop}
use lib.Seq.{take_all}
use borrow.Author.Tests.{eq-eqb, ne_eqb}
use Rattle.program.specs.Each.{collect}
use Rattle.format.specs.Text.{Bytes, ascii, argument}
use Rattle.format.specs.Forms.{form_of}
use Rattle.format.specs.Document.{row}
use Rattle.format.specs.Print.{form_text, row_text, line_text, row_lines}
use Rattle.calls.specs.Layout.{row_size, store_size, counting, row_of}
use Rattle.store.specs.Rows.{store_row, store_program}
use Rattle.store.proofs.Laws.{row_part}
use Rattle.write_rows.specs.Texts.{result_text}

-- ---- a row by its bytes

module _ (s : Bytes) (r : ℕ) where
  row_part_lem : store_row s r ≡ row_of (row_part s r)
  unfolding store_row
  row_part_lem =
      let q : (r * row_size + row_size) - r * row_size ≡ row_size = omega arith in
      rw q

  pub part_length : r < 256 → store_size ≤ length s → length (row_part s r) ≡ row_size
  part_length h l = simp (length-take, length-drop) (omega arith)

module _ (bs : Bytes) where
  pub result_row : get_or bs 0 0 ≡ 1 → row_text (row_of bs) ≡ result_text (get_or bs 1 0)
  unfolding row_of row_text result_text
  result_row e = rw (eq-eqb _ _ e)

  -- the numbers of a bind as the code cuts them out
  abbrev pub numbers_part : Bytes
  numbers_part = take (length bs - 3) (drop 3 bs)

  pub five_numbers : length bs ≡ row_size → length numbers_part ≡ 5
  five_numbers h = simp (length-take, length-drop) (omega arith)

  pub bind_row : (get_or bs 0 0 ≡ 1 → ⊥)
      → row_text (row_of bs)
      ≡ ascii "[bind"
      ++ (argument (get_or bs 1 0) ++ (ascii " " ++ (form_text (form_of (get_or bs 0 0) numbers_part) ++ (argument (get_or bs 2 0) ++ ascii "]"))))
  unfolding row_of row_text
  bind_row e = rw (ne_eqb _ _ e, take_all (length bs - 3) (drop 3 bs) (simp length-drop (omega arith)))

-- ---- the lines of rows r, r + 1 and so on, below n

pub rows_all : (n : ℕ) (s : Bytes) → collect line_text (row_lines 0 (store_program n s)) ≡ collect line_text (row_lines 0 (counting (n - 0) 0 (store_row s)))
unfolding store_program
rows_all n s =
    let q : n - 0 ≡ n = omega arith in
    rw q

pub rows_next : (n r : ℕ) (s : Bytes) → r < n
    → collect line_text (row_lines r (counting (n - r) r (store_row s)))
    ≡ line_text (row r (row_of (row_part s r))) ++ collect line_text (row_lines (r + 1) (counting (n - (r + 1)) (r + 1) (store_row s)))
unfolding counting row_lines collect
rows_next n r s h =
    let q : n - r ≡ suc (n - (r + 1)) = omega arith in
    rw (q, add-one, ← row_part_lem s r)

pub rows_end : (n r : ℕ) (s : Bytes) → n ≤ r → collect line_text (row_lines r (counting (n - r) r (store_row s))) ≡ []
unfolding counting row_lines collect
rows_end n r s h =
    let q : n - r ≡ 0 = omega arith in
    rw q
