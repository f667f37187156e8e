-- The lengths of a form, a row and its line, by their parts.
use Prim.Native.Nat.{ℕ, ◌+◌, ◌-◌, ◌<◌, ◌≤◌}
use native.Mathlib.Omega.{arith}
use mathlib.Core.List.{List, [], ◌∷◌}
use mathlib.Core.Path.{◌≡◌, refl, sym, ap, ◌∙◌}
use lib.ListN.{length, get_or, take, drop, length-append}
use lib.Dec.{eqb}
use borrow.Author.Tests.{eqb-true}
use Rattle.program.specs.declared.Row.{Row}
use Rattle.program.specs.Test.{all}
use Rattle.program.specs.Each.{collect}
use Rattle.program.proofs.Test.{all_elim}
use lib.Seq.{length-take-le}
use Rattle.format.proofs.Lengths.{argument-length, arguments-length}
use Rattle.format.specs.Text.{Bytes, ascii, argument, arguments}
use Rattle.format.specs.Forms.{arity, form_of}
use Rattle.format.specs.Document.{row}
use Rattle.format.specs.Print.{form_text, row_text, line_text, row_lines}
use Rattle.calls.specs.Layout.{row_of, counting}
use Rattle.kinds.specs.Kinds.{form_place}
use Rattle.kinds.proofs.Counts.{place_below}
use Rattle.store.specs.Rows.{store_row, store_program}
use Rattle.store.proofs.Laws.{row_part, program_length}
use Rattle.write_forms.specs.Texts.{kind_word}
use Rattle.write_forms.proofs.Words.{word_at, word_is, form_text_lem}
use Rattle.write_forms.proofs.Numbers.{arguments_next, arguments_end}
use Rattle.write_rows.specs.Texts.{result_text}
use Rattle.write_rows.proofs.Parts.{numbers_part, result_row, bind_row, rows_all, rows_next, rows_end}
use Rattle.write_store.proofs.Bounds.{form_parts, rows_length}

abbrev lengths : List ℕ
lengths = 5 ∷ 5 ∷ 5 ∷ 5 ∷ 5 ∷ 5 ∷ 6 ∷ 4 ∷ 6 ∷ 5 ∷ 6 ∷ 7 ∷ 5 ∷ 6 ∷ []

pub word_length : (k : ℕ) → get_or lengths (form_place k) 0 ≡ length (kind_word k)
unfolding all ascii
word_length k =
    eqb-true (get_or lengths (form_place k) 0) (length (word_at (form_place k)))
    (all_elim 14 (λ p. eqb (get_or lengths p 0) (length (word_at p))) refl (form_place k) (place_below k))
    ∙ ap length (word_is k)

pub word_short : (k : ℕ) → length (kind_word k) ≤ 7
unfolding kind_word
word_short k = (form_parts (form_of k [])).0

pub form_sum : (k : ℕ) (ns : List ℕ) → length ns ≡ 5 → length (kind_word k) + length (arguments (take (arity k) ns)) + 1 ≡ length (form_text (form_of k ns))
unfolding ascii
form_sum k ns h = rw (form_text_lem k ns h) (simp length-append (omega arith))

module _ (bs : Bytes) where
  pub result_sum : get_or bs 0 0 ≡ 1 → length (argument (get_or bs 1 0)) + 8 ≡ length (row_text (row_of bs))
  unfolding result_text ascii
  result_sum e = rw (result_row bs e) (simp length-append (omega arith))

  pub bind_sum : (get_or bs 0 0 ≡ 1 → ⊥)
      → length (argument (get_or bs 1 0)) + length (form_text (form_of (get_or bs 0 0) (numbers_part bs))) + length (argument (get_or bs 2 0)) + 7 ≡ length (row_text (row_of bs))
  unfolding ascii
  bind_sum e = rw (bind_row bs e) (simp length-append (omega arith))

pub line_sum : (r : ℕ) (x : Row) → length (argument r) + length (row_text x) + 7 ≡ length (line_text (row r x))
unfolding line_text ascii
line_sum r x = simp length-append (omega arith)

-- ---- numbers and lines in turn

pub numbers_next : (ns : List ℕ) (i : ℕ) → i < length ns → length (arguments (drop i ns)) ≡ length (argument (get_or ns i 0)) + length (arguments (drop (i + 1) ns))
numbers_next ns i h = rw (arguments_next ns i h) (length-append (argument (get_or ns i 0)) (arguments (drop (i + 1) ns)))

pub numbers_end : (ns : List ℕ) (i : ℕ) → length ns ≤ i → length (arguments (drop i ns)) ≡ 0
numbers_end ns i h = rw (arguments_end ns i h)

-- the length of the lines of rows r, r + 1 and so on, below n
abbrev pub rows_from : ℕ → ℕ → Bytes → ℕ
rows_from n r s = length (collect line_text (row_lines r (counting (n - r) r (store_row s))))

pub lines_all : (n : ℕ) (s : Bytes) → rows_from n 0 s ≡ length (collect line_text (row_lines 0 (store_program n s)))
lines_all n s = ap length (sym (rows_all n s))

pub lines_next : (n r : ℕ) (s : Bytes) → r < n → rows_from n r s ≡ length (line_text (row r (row_of (row_part s r)))) + rows_from n (r + 1) s
lines_next n r s h = rw (rows_next n r s h) (length-append (line_text (row r (row_of (row_part s r)))) (collect line_text (row_lines (r + 1) (counting (n - (r + 1)) (r + 1) (store_row s)))))

pub lines_end : (n r : ℕ) (s : Bytes) → n ≤ r → rows_from n r s ≡ 0
lines_end n r s h = rw (rows_end n r s h)

-- the lines of fewer than 256 rows
pub rows_short : (n : ℕ) (s : Bytes) → n < 256 → length (collect line_text (row_lines 0 (store_program n s))) ≤ 25600
rows_short n s h = omega (arith, rows_length 0 (store_program n s), program_length n s)

-- how long the texts of numbers can be
pub ruleset sizes = (argument-length, arguments-length, length-take-le)
