-- The rows that are read from a store: their bytes stand there exactly if each row's bytes are those of its row and zeros follow.
use Prim.Native.Nat.{ℕ, zero, suc, ◌+◌, ◌*◌, ◌-◌, ◌≤◌, ◌<◌}
use native.Mathlib.Omega.{arith}
use mathlib.Core.Bool.{Bool, not, ◌&&◌, So, not-not, and-eq-true_iff}
use mathlib.Core.List.{[], ◌∷◌}
use mathlib.Core.Path.{◌≡◌, refl, sym, ap, ◌∙◌, fun_ext}
use mathlib.Core.Logic.{◌↔◌}
use lib.ListN.{length, get_or, take, drop, replicate, length-take, length-drop}
use lib.Seq.{take-take}
use lib.Dec.{ltb, eqb}
use borrow.Author.Tests.{lt-ltb}
use Rattle.program.specs.declared.Row.{Row}
use Rattle.program.specs.declared.Form.{Form}
use Rattle.program.specs.declared.Form.TheVariants.{Chan, Send, Recv, Pair, Left, Right, Fun, Spawn, Sync, First, Second, Case, Apply}
use Rattle.program.specs.Each.{every, collect}
use Rattle.program.specs.Program.{Program}
use Rattle.program.proofs.Test.{and_left, and_right, and_intro, all_elim, all_intro}
use Rattle.format.specs.Limits.{row_limit}
use Rattle.format.specs.Text.{Bytes}
use Rattle.format.specs.Forms.{form_code}
use Rattle.format.specs.Print.{row_lines}
use Rattle.format.specs.Read.{present, row_numbers, line_numbers, above_limit}
use Rattle.calls.specs.Layout.{row_size, rows_size, counting, padded, row_bytes, row_of, decode_rows}
use Rattle.calls.specs.Canonical.{count_rows, row_sound, rows_sound, rest_zero}
use Rattle.calls.proofs.Codec.{same_iff}
use Rattle.calls.proofs.Codec.Sparse.{either, counting-length}
use Rattle.calls.proofs.Codec.Rows.{rows_length, row_size_lem}
use Rattle.calls.proofs.Canonical.Lists.{parts_iff, zeros_iff, counting_shift, every-counting, drop_part, chunks_iff}

-- the bytes of row r
abbrev pub row_part : Bytes → ℕ → Bytes
row_part s r = take row_size (drop (r * row_size) s)

pub count_rows-le : (k : ℕ) (s : Bytes) → count_rows k s ≤ k
unfolding count_rows
count_rows-le zero s = omega arith
count_rows-le (suc k) s = either (eqb (get_or s 0 0) 0) (λ e. rw e (omega arith)) (λ e. rw e (omega (arith, count_rows-le k (drop row_size s))))

pub rows_counted : (k : ℕ) (s : Bytes) → decode_rows k s ≡ counting (count_rows k s) 0 (λ r. row_of (row_part s r))
unfolding decode_rows count_rows counting
rows_counted zero s = refl
rows_counted (suc k) s =
    let n = count_rows k (drop row_size s) in
    either (eqb (get_or s 0 0) 0)
    (λ e. rw (e, decode_rows))
    (λ e. rw (e, decode_rows, rows_counted k (drop row_size s), counting_shift n 0 (λ r. row_of (row_part s r)))
    (ap (λ (f : ℕ → Row). row_of (take row_size s) ∷ counting n 0 f) (fun_ext λ r. ap (λ (t : Bytes). row_of (take row_size t)) (drop_part row_size r s))))

pub rows_count : (k : ℕ) (s : Bytes) → length (decode_rows k s) ≡ count_rows k s
rows_count k s = rw rows_counted (counting-length (count_rows k s) 0 _)

present-counting : (n i : ℕ) (f : ℕ → Row) → present (counting n i f) ≡ ltb 0 n
unfolding present counting
present-counting zero i f = refl
present-counting (suc n) i f = sym (lt-ltb 0 (suc n) (omega arith))

pub rows_present : (k : ℕ) (s : Bytes) → present (decode_rows k s) ≡ ltb 0 (count_rows k s)
rows_present k s = rw rows_counted (present-counting (count_rows k s) 0 _)

-- ---- one row

kind_bind : (f : Form) → So (ltb 0 (form_code f) && ltb (form_code f) 16)
unfolding form_code
kind_bind Form.Unit = refl
kind_bind Chan = refl
kind_bind (Send c m) = refl
kind_bind (Recv c) = refl
kind_bind (Pair a b) = refl
kind_bind (Left a) = refl
kind_bind (Right a) = refl
kind_bind (Fun f x s) = refl
kind_bind (Spawn s) = refl
kind_bind (Sync e) = refl
kind_bind (First a) = refl
kind_bind (Second a) = refl
kind_bind (Case s l u r w) = refl
kind_bind (Apply f a) = refl

kind_row : (x : Row) → So (ltb 0 (get_or (row_bytes x) 0 0) && ltb (get_or (row_bytes x) 0 0) 16)
unfolding row_bytes padded
kind_row (Row.Result n) = refl
kind_row (Row.Bind b) = kind_bind b.form

abbrev low : Row → Bool
low x = every (λ n. ltb n row_limit) (row_numbers x)

row_sound_iff : (bs : Bytes) → So (row_sound bs) ↔ ((row_bytes (row_of bs) ≡ bs) × So (low (row_of bs)))
unfolding row_sound
row_sound_iff bs = (
  λ t. let ((_, p), q) = simp and-eq-true_iff at t in ((same_iff (row_bytes (row_of bs)) bs).0 p, q),
  λ (e, t). and_intro (and_intro (rw e at (kind_row (row_of bs))) ((same_iff (row_bytes (row_of bs)) bs).1 e)) t,
)

-- ---- all rows

rows_bytes_iff : (k : ℕ) (s : Bytes) → k * row_size ≤ length s
    → (padded (k * row_size) (collect row_bytes (decode_rows k s)) ≡ take (k * row_size) s)
    ↔ (((r : ℕ) → r < count_rows k s → row_bytes (row_of (row_part s r)) ≡ row_part s r) × So (every (λ b. eqb b 0) (drop (count_rows k s * row_size) (take (k * row_size) s))))
unfolding padded
rows_bytes_iff k s fits =
    let n = count_rows k s in
    let m = k * row_size in
    let bs = collect row_bytes (decode_rows k s) in
    let e : bs ≡ collect row_bytes (counting n 0 λ r. row_of (row_part s r)) = ap (collect row_bytes) (rows_counted k s) in
    let size : length bs ≡ n * row_size = rows_length (decode_rows k s) ∙ rw rows_count in
    let first : take (n * row_size) (take m s) ≡ take (n * row_size) s = take-take (n * row_size) m s (omega (arith, count_rows-le k s)) in
    let (split, join) = parts_iff bs (replicate (m - length bs) 0) (take m s) (n * row_size) size in
    let (each, all) = chunks_iff row_size row_bytes row_size_lem n (λ r. row_of (row_part s r)) s in
    let (every-zero, zeros) = zeros_iff (drop (n * row_size) (take m s)) (m - length bs) (simp (length-drop, length-take) (omega arith)) in
    (λ q. let (p, z) = split q in (each (sym e ∙ p ∙ first), every-zero z), λ (h, z). join (e ∙ all h ∙ sym first, zeros z))

-- a row's own number is below the limit, so what is left of its line are the numbers in it
rows_low : (r : ℕ) (xs : Program) → r + length xs ≤ row_limit → every (λ l. not (above_limit l)) (row_lines r xs) ≡ every low xs
unfolding every row_lines above_limit line_numbers
rows_low r [] l = refl
rows_low r (x ∷ xs) l = rw (not-not, lt-ltb r row_limit (omega arith), rows_low (suc r) xs (omega arith))

-- the tests of the rows' part
pub rows_iff : (s : Bytes) → rows_size ≤ length s → So (rows_sound (count_rows row_limit s) s && rest_zero (count_rows row_limit s) s)
    ↔ (So (every (λ l. not (above_limit l)) (row_lines 0 (decode_rows row_limit s))) × (padded rows_size (collect row_bytes (decode_rows row_limit s)) ≡ take rows_size s))
unfolding rows_sound rest_zero
rows_iff s fits =
    let n = count_rows row_limit s in
    let (split, join) = rows_bytes_iff row_limit s fits in
    let (low-each, each-low) = every-counting low n (λ r. row_of (row_part s r)) in
    let low-is : every (λ l. not (above_limit l)) (row_lines 0 (decode_rows row_limit s)) ≡ every low (counting n 0 λ r. row_of (row_part s r)) =
    rows_low 0 (decode_rows row_limit s) (omega (arith, rows_count row_limit s, count_rows-le row_limit s)) ∙ ap (every low) (rows_counted row_limit s) in (
      λ t.
          let each : (r : ℕ) → r < n → (row_bytes (row_of (row_part s r)) ≡ row_part s r) × So (low (row_of (row_part s r))) =
          λ r l. (row_sound_iff (row_part s r)).0 (all_elim n (λ r. row_sound (row_part s r)) (and_left (rows_sound n s) (rest_zero n s) t) r l) in
          (low-is ∙ each-low (λ r l. (each r l).1), join (λ r l. (each r l).0, and_right (rows_sound n s) (rest_zero n s) t)),
      λ (t, q).
          let (h, z) = split q in
          and_intro (all_intro n (λ r. row_sound (row_part s r)) (λ r l. (row_sound_iff (row_part s r)).1 (h r l, low-each (sym low-is ∙ t) r l))) z,
    )
