-- Following rests to a result row.
use Prim.Native.Nat.{ℕ, zero, suc, ◌+◌, ◌-◌, ◌≤◌, ◌<◌}
use native.Mathlib.Omega.{arith}
use native.Mathlib.Decide.{ℕ_discrete}
use native.Mathlib.Numerals.{sub-one}
use mathlib.Core.Bool.{true}
use mathlib.Core.Path.{◌≡◌, refl, sym, ap, ◌∙◌}
use lib.ListN.{length, set, get_or-eq_default}
use lib.Seq.{get_or-set_same, get_or-set_other}
use lib.Dec.{ltb}
use borrow.Author.Tests.{ltb-true}
use Rattle.std.specs.List.{list_all, range_with_len}
use Rattle.program.specs.declared.Row.{Row}
use Rattle.program.specs.declared.Bind.{Bind}
use Rattle.program.specs.Maybe.{when}
use Rattle.program.specs.Program.{Program, row_at, bind_of, bind_at, result_from, result_row}
use Rattle.program.proofs.Test.{and_left, and_right}
use Rattle.format.specs.Text.{Bytes, byte_at}
use Rattle.store.specs.Rows.{store_program}
use Rattle.store.proofs.Laws.{program_length}
use Rattle.results.specs.Results.{rest_rises, Rising, ResultsFrom, ResultRows}

module _ (p : Program) where
  pub result_none : (k r : ℕ) → k ≤ 0 → result_from k p r ≡ r
  unfolding result_from
  result_none zero r l = refl
  result_none (suc k) r l = absurd (omega arith)

  pub result_end : (k r : ℕ) {m : ℕ} → row_at p r ≡ Row.Result m → result_from k p r ≡ r
  unfolding result_from
  result_end zero r e = refl
  result_end (suc k) r e = rw (e, result_from)

  pub result_step : (k r : ℕ) {b : Bind} → 0 < k → row_at p r ≡ Row.Bind b → result_from k p r ≡ result_from (k - 1) p b.rest
  unfolding result_from
  result_step zero r l e = absurd (omega arith)
  result_step (suc k) r l e = rw (e, sub-one, result_from)

  -- one step of n, where i are done
  pub follow_step : (n i r : ℕ) {b : Bind} → i < n → row_at p r ≡ Row.Bind b → result_from (n - i) p r ≡ result_from (n - (i + 1)) p b.rest
  follow_step n i r {b} l e = let q : n - i - 1 ≡ n - (i + 1) = omega arith in result_step (n - i) r (omega arith) e ∙ ap (λ k. result_from k p b.rest) q

  -- the rest of a bind, where it rises
  pub rises_to : (r : ℕ) {b : Bind} → row_at p r ≡ Row.Bind b → rest_rises p r ≡ true → (r < b.rest) × (b.rest < length p)
  unfolding rest_rises bind_at bind_of when
  rises_to r {b} e h =
      let t = rw (e, bind_of, when) at h in
      (ltb-true _ _ (and_left (ltb r b.rest) _ t), ltb-true _ _ (and_right (ltb r b.rest) _ t))

  -- where all rests rise, a step more than there are greater rows changes nothing
  step_more : (k r : ℕ) → rest_rises p r ≡ true → ((t : ℕ) → r < t → t < length p → result_from (suc k) p t ≡ result_from k p t) → (w : Row) → row_at p r ≡ w
      → result_from (suc (suc k)) p r ≡ result_from (suc k) p r
  step_more k r up more (Row.Result n) e = result_end (suc (suc k)) r e ∙ sym (result_end (suc k) r e)
  step_more k r up more (Row.Bind b) e =
      let (above, there) = rises_to r e up in
      result_step (suc (suc k)) r (omega arith) e ∙ rw (sub-one, sub-one) (more b.rest above there) ∙ sym (result_step (suc k) r (omega arith) e)

  enough : Rising p (length p) → (k r : ℕ) → r < length p → length p ≤ k + r → result_from (suc k) p r ≡ result_from k p r
  unfolding Rising
  enough up zero r l h = absurd (omega arith)
  enough up (suc k) r l h = step_more k r (up r l) (λ t above there. enough up k t there (omega arith)) (row_at p r) refl

  -- so a row's result row is that of its rest
  pub result_rest : Rising p (length p) → (r : ℕ) {b : Bind} → r < length p → row_at p r ≡ Row.Bind b → result_row p r ≡ result_row p b.rest
  unfolding result_row Rising
  result_rest up r {b} l e =
      let (above, there) = rises_to r e (up r l) in
      let k = length p - 1 in
      let q : length p ≡ suc k = omega arith in
      result_step (length p) r (omega arith) e ∙ sym (enough up k b.rest there (omega arith)) ∙ ap (λ n. result_from n p b.rest) (sym q)

pub result_steps : (n : ℕ) (s : Bytes) (t : ℕ) → result_from n (store_program n s) t ≡ result_row (store_program n s) t
unfolding result_row
result_steps n s t = rw program_length

-- ---- the bytes of the result rows

module _ {p : Program} {n : ℕ} where
  pub results_none : {results : Bytes} → ResultsFrom p n n results
  results_none = record { at = λ t l m. absurd (omega arith) }

  -- one row more, below the others
  pub results_more : (t m : ℕ) {results : Bytes} {v : ℕ} → m ≡ t + 1 → t < length results → v ≡ result_row p t → ResultsFrom p m n results → ResultsFrom p t n (set results t v)
  results_more t m {results} {v} q l e h =
      record {
        at = λ i j k. elim (ℕ_discrete i t) [
          | yes d ↦ rw d (get_or-set_same results t v 0 l ∙ e)
          | no d ↦ get_or-set_other results t i v 0 d ∙ h.at i (omega arith) k
        ];
      }

-- ---- rests that rise

module _ (p : Program) where
  listed : (from n : ℕ) → list_all (rest_rises p) (range_with_len from n) ≡ true → (r : ℕ) → from ≤ r → r < from + n → rest_rises p r ≡ true
  listed from zero h r l m = absurd (omega arith)
  listed from (suc n) h r l m =
      elim (ℕ_discrete r from) [
        | yes q ↦ rw q (and_left (rest_rises p from) _ h)
        | no d ↦ listed (from + 1) n (and_right (rest_rises p from) _ h) r (omega arith) (omega arith)
      ]

  pub rising_listed : (n : ℕ) → list_all (rest_rises p) (range_with_len 0 n) ≡ true → Rising p n
  unfolding Rising
  rising_listed n h r l = listed 0 n h r (omega arith) (omega arith)

  pub rising_all : {n m : ℕ} → n ≤ m → Rising p m → Rising p n
  unfolding Rising
  rising_all l h r lt = h r (omega arith)

  pub result_self : (r : ℕ) {m : ℕ} → row_at p r ≡ Row.Result m → result_row p r ≡ r
  unfolding result_row
  result_self r e = result_end p (length p) r e

-- a bind's result row, told by those of the greater rows
pub rest_told : (n : ℕ) (s : Bytes) (t : ℕ) {b : Bind} {results : Bytes} → t < n → row_at (store_program n s) t ≡ Row.Bind b → Rising (store_program n s) n
    → ResultsFrom (store_program n s) (t + 1) n results → result_row (store_program n s) t ≡ byte_at results b.rest
unfolding Rising
rest_told n s t {b} l e up h =
    let p = store_program n s in
    let size : length p ≡ n = program_length n s in
    let (above, there) = rises_to p t e (up t l) in
    result_rest p (λ r m. up r (rw size at m)) t (rw size l) e ∙ sym (h.at b.rest (omega arith) (rw size at there))

-- past the last row
pub result_past : (p : Program) (t : ℕ) → length p ≤ t → result_row p t ≡ t
unfolding row_at
result_past p t l = result_self p t (get_or-eq_default p (Row.Result 0) {n = t} l)

pub results_all : {p : Program} {n m : ℕ} {results : Bytes} → m ≤ 0 → ResultsFrom p m n results → ResultRows p n results
results_all l h = record { at = λ t _ k. h.at t (omega arith) k }

pub results_from : {p : Program} {n : ℕ} {results : Bytes} (a b : ℕ) → a ≡ b → ResultsFrom p a n results → ResultsFrom p b n results
results_from a b e h = rw e at h
