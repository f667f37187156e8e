-- The rows of the store: eight bytes decode to their row, and all rows fit.
use Prim.Native.Nat.{ℕ, zero, suc, ◌+◌, ◌*◌, ◌-◌, ◌≤◌, ◌<◌}
use native.Mathlib.Omega.{arith}
use mathlib.Core.Bool.{true, false, ◌&&◌, So}
use mathlib.Core.List.{[], ◌∷◌, ◌++◌, append_assoc}
use mathlib.Core.Path.{◌≡◌, refl, ap, ◌∙◌}
use lib.ListN.{length, get_or, replicate, length-append, length-replicate, get_or-append}
use lib.Seq.{take_at, drop_at}
use lib.Dec.{ltb, eqb, lit<}
use borrow.Author.Tests.{ltb-true, ne_eqb}
use Rattle.program.specs.declared.Row.{Row}
use Rattle.program.specs.declared.Form.{Form}
use Rattle.program.specs.declared.Form.TheVariants.{Chan, Send, Recv, Pair, Left, Right, Fun, Spawn, Sync, First, Second, Case, Apply}
use Rattle.program.specs.Each.{here, collect, Each, nil, ◌&◌}
use Rattle.program.specs.Program.{Program}
use Rattle.program.proofs.Test.{and_left, and_right}
use Rattle.program.proofs.Each.{each_at, each_append, each_left, each_right}
use Rattle.format.specs.Text.{Bytes}
use Rattle.format.specs.Forms.{form_code, form_of}
use Rattle.format.specs.Print.{form_numbers, row_lines}
use Rattle.format.specs.Read.{row_numbers, line_numbers}
use Rattle.calls.specs.Layout.{row_size, padded, row_bytes, row_of, decode_rows}

-- a row's bytes: how many, that the first is not 0 and is a byte, and that they decode
record Coded (x : Row) : Type 0 where
  size : length (row_bytes x) ≡ row_size
  kind : So (ltb 0 (get_or (row_bytes x) 0 0) && ltb (get_or (row_bytes x) 0 0) 256)
  back : row_of (row_bytes x) ≡ x

abbrev bound : ℕ → Form → ℕ → Row
bound n f t = Row.Bind (record { name = n; form = f; rest = t })

coded_bind : (n : ℕ) (f : Form) (t : ℕ) → Coded (bound n f t)
unfolding row_bytes padded form_code form_numbers row_of form_of
coded_bind n Form.Unit t = record { size = refl; kind = refl; back = refl }
coded_bind n Chan t = record { size = refl; kind = refl; back = refl }
coded_bind n (Send c m) t = record { size = refl; kind = refl; back = refl }
coded_bind n (Recv c) t = record { size = refl; kind = refl; back = refl }
coded_bind n (Pair a b) t = record { size = refl; kind = refl; back = refl }
coded_bind n (Left a) t = record { size = refl; kind = refl; back = refl }
coded_bind n (Right a) t = record { size = refl; kind = refl; back = refl }
coded_bind n (Fun f x s) t = record { size = refl; kind = refl; back = refl }
coded_bind n (Spawn s) t = record { size = refl; kind = refl; back = refl }
coded_bind n (Sync e) t = record { size = refl; kind = refl; back = refl }
coded_bind n (First a) t = record { size = refl; kind = refl; back = refl }
coded_bind n (Second a) t = record { size = refl; kind = refl; back = refl }
coded_bind n (Case s l u r w) t = record { size = refl; kind = refl; back = refl }
coded_bind n (Apply f a) t = record { size = refl; kind = refl; back = refl }

coded : (x : Row) → Coded x
unfolding row_bytes padded row_of
coded (Row.Result n) = record { size = refl; kind = refl; back = refl }
coded (Row.Bind b) = coded_bind b.name b.form b.rest

pub rows_length : (xs : Program) → length (collect row_bytes xs) ≡ length xs * row_size
unfolding collect
rows_length [] = refl
rows_length (x ∷ xs) = simp (length-append, (coded x).size, rows_length xs) (omega arith)

pub row_size_lem : (x : Row) → length (row_bytes x) ≡ row_size
row_size_lem x = (coded x).size

kind_range : (x : Row) → (0 < get_or (row_bytes x) 0 0) × (get_or (row_bytes x) 0 0 < 256)
kind_range x =
    let k : ℕ = get_or (row_bytes x) 0 0 in
    (ltb-true 0 k (and_left _ (ltb k 256) (coded x).kind), ltb-true k 256 (and_right (ltb 0 k) _ (coded x).kind))

-- the kind of the first row is not 0
pub first_kind : (x : Row) (more : Bytes) → eqb (get_or (row_bytes x ++ more) 0 0) 0 ≡ false
first_kind x more =
    let h : 0 < length (row_bytes x) = omega (arith, (coded x).size) in
    rw (get_or-append (row_bytes x) more 0 0 h) (ne_eqb (get_or (row_bytes x) 0 0) 0 (omega (arith, kind_range x)))

row_back : (k : ℕ) (x : Row) (more : Bytes) → decode_rows (suc k) (row_bytes x ++ more) ≡ x ∷ decode_rows k more
unfolding decode_rows
row_back k x more =
    rw (first_kind x more, decode_rows, take_at (row_bytes x) more row_size (coded x).size, drop_at (row_bytes x) more row_size (coded x).size, (coded x).back)

-- rows decode, where what follows the last of fewer than k rows begins with 0
rows_back : (k : ℕ) (xs : Program) (more : Bytes) → length xs ≤ k → (length xs < k → eqb (get_or more 0 0) 0 ≡ true)
    → decode_rows k (collect row_bytes xs ++ more) ≡ xs
unfolding collect decode_rows
rows_back zero [] more h end = refl
rows_back (suc k) [] more h end = rw (end (omega arith), decode_rows)
rows_back zero (x ∷ xs) more h end = absurd (omega arith)
rows_back (suc k) (x ∷ xs) more h end =
    ap (decode_rows (suc k)) (append_assoc (row_bytes x) (collect row_bytes xs) more)
    ∙ row_back k x (collect row_bytes xs ++ more)
    ∙ ap (λ ys. x ∷ ys) (rows_back k xs more (omega arith) (λ l. end (omega arith)))

zeros_first : (n : ℕ) (more : Bytes) → 0 < n → eqb (get_or (replicate n 0 ++ more) 0 0) 0 ≡ true
zeros_first zero more h = absurd (omega arith)
zeros_first (suc n) more h = refl

-- row numbers count from r, so below a limit no more rows fit than are left
pub rows_fit : (limit r : ℕ) (xs : Program) → r ≤ limit → Each (λ l. Each (λ n. n < limit) (line_numbers l)) (row_lines r xs) → r + length xs ≤ limit
unfolding row_lines line_numbers
rows_fit limit r [] h below = omega arith
rows_fit limit r (x ∷ xs) h (ls & below) = omega (arith, rows_fit limit (suc r) xs (each_at ls (here refl)) below)

module _ (limit : ℕ) (xs : Program) (fit : length xs ≤ limit) where
  pub rows_part_length : length (padded (limit * row_size) (collect row_bytes xs)) ≡ limit * row_size
  unfolding padded
  rows_part_length = simp (length-append, length-replicate, rows_length xs) (omega arith)

  pub rows_part_back : (more : Bytes) → decode_rows limit (padded (limit * row_size) (collect row_bytes xs) ++ more) ≡ xs
  unfolding padded
  rows_part_back more =
      let left = limit * row_size - length (collect row_bytes xs) in
      rw append_assoc (rows_back limit xs (replicate left 0 ++ more) fit (λ l. zeros_first left more (omega (arith, rows_length xs))))

-- a byte
abbrev pub Byte : ℕ → Type 0
Byte b = b < 256

zeros_range : (n : ℕ) → Each Byte (replicate n 0)
zeros_range zero = nil
zeros_range (suc n) = lit< tt & zeros_range n

padded_range : (n : ℕ) (bs : Bytes) → Each Byte bs → Each Byte (padded n bs)
unfolding padded
padded_range n bs h = each_append h (zeros_range (n - length bs))

row_range : (x : Row) → Each Byte (row_numbers x) → Each Byte (row_bytes x)
unfolding row_bytes padded row_numbers
row_range (Row.Result n) h = padded_range row_size _ (lit< tt & h)
row_range (Row.Bind b) (h & hs) =
    let ns = form_numbers b.form in
    let rest = each_at (each_right ns (b.rest ∷ []) hs) (here refl) in
    padded_range row_size _ ((kind_range (Row.Bind b)).1 & h & rest & each_left ns (b.rest ∷ []) hs)

rows_collected : (r : ℕ) (xs : Program) → Each (λ l. Each Byte (line_numbers l)) (row_lines r xs) → Each Byte (collect row_bytes xs)
unfolding row_lines line_numbers collect
rows_collected r [] h = nil
rows_collected r (x ∷ xs) (p & h) = each_append (row_range x (each_right (r ∷ []) (row_numbers x) p)) (rows_collected (suc r) xs h)

pub rows_range : (n r : ℕ) (xs : Program) → Each (λ l. Each Byte (line_numbers l)) (row_lines r xs) → Each Byte (padded n (collect row_bytes xs))
rows_range n r xs h = padded_range n (collect row_bytes xs) (rows_collected r xs h)
