-- The results that the rows of a store's program come to.
use Prim.Native.Nat.{ℕ, ◌+◌, ◌≤◌, ◌<◌}
use native.Mathlib.Omega.{arith}
use native.Mathlib.Decide.{dec_lt, ℕ_discrete as dec_eq}
use mathlib.Core.Path.{◌≡◌, ap, ◌∙◌}
use lib.ListN.{length, replicate, set, length-set, length-replicate}
use lib.Seq.{get_or-set_same, get_or-set_other}
use lib.Dec.{ltb}
use borrow.Author.Tests.{lt-ltb, le-ltb}
use Rattle.program.specs.Program.{row_at, name_of, result_name}
use Rattle.program.specs.Test.{pick}
use Rattle.format.specs.Limits.{row_limit}
use Rattle.format.specs.Text.{Bytes, byte_at}
use Rattle.store.specs.Rows.{store_program}
use Rattle.store.proofs.Laws.{program_length, zeros_at}
use Rattle.forms.proofs.Forms.{row_past}
use Rattle.results.specs.Results.{ResultRows}
use Rattle.results.proofs.Following.{result_past as result-row-past}
use Rattle.asks.specs.Asks.{Names}

-- ---- an array of names that a loop fills

below_more : (i n : ℕ) → (i ≡ n → ⊥) → ltb i n ≡ ltb i (n + 1)
below_more i n d =
    elim (dec_lt i n) [
      | yes l ↦ rw (lt-ltb i n l, lt-ltb i (n + 1) (omega arith))
      | no g ↦ rw (le-ltb i n (omega arith), le-ltb i (n + 1) (omega arith))
    ]

-- the first n bytes are f's, the others 0
pub record Filled (n : ℕ) (f : ℕ → ℕ) (s : Bytes) : Type 0 where
  pub size : row_limit ≤ length s
  pub bytes : (i : ℕ) → byte_at s i ≡ pick (ltb i n) (f i) 0

pub filled_none : (f : ℕ → ℕ) → Filled 0 f (replicate row_limit 0)
filled_none f = record { size = omega (arith, length-replicate {A = ℕ} row_limit 0); bytes = λ i. rw (le-ltb i 0 (omega arith)) (zeros_at row_limit i) }

pub filled_more : (n : ℕ) {v : ℕ} {s : Bytes} {f : ℕ → ℕ} → n < row_limit → Filled n f s → v ≡ f n → Filled (n + 1) f (set s n v)
filled_more n {v} {s} {f} l h e =
    record {
      size = simp length-set h.size;
      bytes = λ i. elim (dec_eq i n) [
        | yes q ↦ rw (q, lt-ltb n (n + 1) (omega arith)) (get_or-set_same s n v 0 (omega (arith, h.size)) ∙ e)
        | no d ↦ get_or-set_other s n i v 0 d ∙ h.bytes i ∙ ap (λ b. pick b (f i) 0) (below_more i n d)
      ];
    }

-- ---- the names of results

module _ (n : ℕ) (s : Bytes) where
  -- a row's result name, by its result row
  pub result_named : {results : Bytes} {t : ℕ} → t < n → ResultRows (store_program n s) n results → name_of (row_at (store_program n s) (byte_at results t)) ≡ result_name (store_program n s) t
  unfolding result_name
  result_named {t = t} l h = ap (λ r. name_of (row_at (store_program n s) r)) (h.at t (omega arith) l)

  result_past : (t : ℕ) → n ≤ t → result_name (store_program n s) t ≡ 0
  unfolding result_name name_of
  result_past t h = rw (result-row-past (store_program n s) t (rw program_length h), row_past n s t h)

  -- the names of the first n rows, and zeros
  pub names_filled : {names : Bytes} → Filled n (result_name (store_program n s)) names → Names (store_program n s) names
  unfolding Names
  names_filled h t =
      elim (dec_lt t n) [
        | yes l ↦ h.bytes t ∙ rw (lt-ltb t n l)
        | no g ↦ h.bytes t ∙ rw (le-ltb t n (omega arith), result_past t (omega arith))
      ]
