-- The rows of a store: a row by its bytes, the program of the first rows by its rows, and the rows that a store decodes to.
use Prim.Native.Nat.{ℕ, zero, suc, ◌+◌, ◌*◌, ◌≤◌, ◌<◌, ◌-◌}
use native.Mathlib.Omega.{arith}
use native.Mathlib.Nat.{add-zero}
use mathlib.Core.Bool.{false}
use mathlib.Core.List.{[], ◌∷◌, ◌++◌, append_assoc}
use mathlib.Core.Path.{◌≡◌, refl, sym, ap, ◌∙◌}
use lib.ListN.{length, get_or, take, drop, replicate, length-drop}
use lib.Seq.{get_or-take, get_or-drop, drop-drop, take_all, sets, sets-eq}
use lib.Dec.{eqb}
use borrow.Author.Tests.{eq-eqb, ne_eqb}
use Rattle.program.specs.declared.Row.{Row}
use Rattle.program.specs.Program.{row_at}
use Rattle.format.specs.Text.{Bytes, byte_at}
use Rattle.format.specs.Forms.{form_of}
use Rattle.calls.specs.Layout.{row_size, row_of, counting, decode_rows}
use Rattle.calls.proofs.Codec.Sparse.{counting-length}
use Rattle.store.specs.Rows.{store_row, store_program, cells_at}

-- ---- a row by its bytes

byte : (s : Bytes) (p i : ℕ) → i < row_size → get_or (take row_size (drop p s)) i 0 ≡ get_or s (p + i) 0
byte s p i h = get_or-take row_size (drop p s) i 0 h ∙ get_or-drop p s i 0

pub row_cells : (s : Bytes) (r : ℕ) → store_row s r ≡ row_of (cells_at s r)
unfolding store_row cells_at row_of form_of
row_cells s r =
    let p = r * row_size in
    simp (
      get_or-drop,
      byte s p 0 (omega arith),
      byte s p 1 (omega arith),
      byte s p 2 (omega arith),
      byte s p 3 (omega arith),
      byte s p 4 (omega arith),
      byte s p 5 (omega arith),
      byte s p 6 (omega arith),
      byte s p 7 (omega arith),
      add-zero,
    )

-- ---- values in order

counting_at : {A : Type 0} (n i r : ℕ) (f : ℕ → A) (d : A) → r < n → get_or (counting n i f) r d ≡ f (r + i)
unfolding counting
counting_at zero i r f d h = absurd (omega arith)
counting_at (suc n) i zero f d h = ap f (omega arith)
counting_at (suc n) i (suc r) f d h =
    let q : r + suc i ≡ suc r + i = omega arith in
    counting_at n (suc i) r f d (omega arith) ∙ ap f q

counting_snoc : {A : Type 0} (n i : ℕ) (f : ℕ → A) → counting (suc n) i f ≡ counting n i f ++ (f (n + i) ∷ [])
unfolding counting
counting_snoc zero i f = ap (λ k. f k ∷ []) (omega arith)
counting_snoc (suc n) i f =
    let q : n + suc i ≡ suc n + i = omega arith in
    ap (λ xs. f i ∷ xs) (rw (← q) (counting_snoc n (suc i) f))

-- ---- the program of the first n rows

module _ (n : ℕ) (s : Bytes) where
  pub program_length : length (store_program n s) ≡ n
  unfolding store_program
  program_length = counting-length n 0 (store_row s)

  pub row_at_program : (r : ℕ) → r < n → row_at (store_program n s) r ≡ store_row s r
  unfolding store_program row_at
  row_at_program r h = rw add-zero at (counting_at n 0 r (store_row s) (Row.Result 0) h)

  pub program_snoc : store_program (suc n) s ≡ store_program n s ++ (store_row s n ∷ [])
  unfolding store_program
  program_snoc = rw add-zero at (counting_snoc n 0 (store_row s))

-- ---- parts of a store, as the code cuts them out

-- what stands from a position on
pub rest_all : (s : Bytes) (at : ℕ) → take (length s - at) (drop at s) ≡ drop at s
rest_all s at = take_all (length s - at) (drop at s) (rw (length-drop at s) (omega arith))

pub zeros_at : (k n : ℕ) → byte_at (replicate k 0) n ≡ 0
zeros_at zero n = refl
zeros_at (suc k) zero = refl
zeros_at (suc k) (suc n) = zeros_at k n

-- the bytes of row r
abbrev pub row_part : Bytes → ℕ → Bytes
row_part s r = take (r * row_size + row_size - r * row_size) (drop (r * row_size) s)

-- ---- the rows that a store decodes to: those before the first of kind 0

pub kind_at : (s : Bytes) (p : ℕ) → get_or (drop p s) 0 0 ≡ byte_at s p
kind_at s p = rw add-zero at (get_or-drop p s 0 0)

decode_from : (s : Bytes) (k n i : ℕ) → n ≤ k → ((r : ℕ) → i ≤ r → r < n + i → byte_at s (r * row_size) ≡ 0 → ⊥)
    → (n < k → byte_at s ((n + i) * row_size) ≡ 0) → decode_rows k (drop (i * row_size) s) ≡ counting n i (store_row s)
unfolding decode_rows counting store_row
decode_from s zero zero i h some end = refl
decode_from s zero (suc n) i h some end = absurd (omega arith)
decode_from s (suc k) zero i h some end =
    let q : i ≡ 0 + i = omega arith in
    let e : byte_at s (i * row_size) ≡ 0 = rw (← q) at (end (omega arith)) in
    rw (eq-eqb _ _ (kind_at s (i * row_size) ∙ e), decode_rows)
decode_from s (suc k) (suc n) i h some end =
    let ne : eqb (get_or (drop (i * row_size) s) 0 0) 0 ≡ false = rw (kind_at s (i * row_size)) (ne_eqb _ _ (some i (omega arith) (omega arith))) in
    let q : i * row_size + row_size ≡ suc i * row_size = omega arith in
    let e : n + suc i ≡ suc n + i = omega arith in
    rw (ne, decode_rows, drop-drop, q)
    (ap (λ xs. store_row s i ∷ xs)
    (decode_from s k n (suc i) (omega arith) (λ r l m. some r (omega arith) (omega arith)) λ l. rw e (end (omega arith))))

pub decode_rows_lem : (s : Bytes) (k n : ℕ) → n ≤ k → ((r : ℕ) → r < n → byte_at s (r * row_size) ≡ 0 → ⊥)
    → (n < k → byte_at s (n * row_size) ≡ 0) → decode_rows k s ≡ store_program n s
unfolding store_program
decode_rows_lem s k n h some end = decode_from s k n 0 h (λ r l m. some r (omega arith)) (rw add-zero end)

-- ---- bytes written in the place of others

-- from a to e, as many as there are
pub placed : (a e : ℕ) (xs ys : Bytes) → e ≡ a + length ys → e ≤ length xs → take a xs ++ (ys ++ drop (e - a) (drop a xs)) ≡ sets xs a ys
placed a e xs ys q h =
    let rest : a + (e - a) ≡ a + length ys = omega arith in
    rw (drop-drop (e - a) a xs, rest) (sym (append_assoc (take a xs) ys (drop (a + length ys) xs)) ∙ sym (sets-eq ys xs a (omega arith)))
