-- Growing sets: one change after the other, and a change by a rule that the flow rules have in them.
use Prim.Native.Nat.{ℕ, ◌+◌, ◌<◌, ◌≤◌}
use native.Mathlib.Omega.{arith}
use mathlib.Core.Bool.{Bool, true, false, So, false≢true, ◌||◌}
use mathlib.Core.Path.{◌≡◌, refl, ◌∙◌}
use Rattle.program.specs.Test.{pick}
use Rattle.program.specs.Flow.{Table, keeps_at, keeps_all}
use Rattle.program.proofs.Test.{all_elim}
use Rattle.format.specs.Limits.{row_limit}
use Rattle.format.specs.Text.{Bytes}
use Rattle.store.specs.Rows.{store_program}
use Rattle.store.proofs.Laws.{program_length}
use Rattle.set_adds.specs.Adding.{zeros, Rule, Adds}
use Rattle.asks.specs.Asks.{Names}
use Rattle.send_adds.specs.Sends.{Ready}
use Rattle.spreading.specs.Growing.{Resets, Grows}
use Rattle.set_adds.proofs.Adding.{rows_same, falls_then}
use Rattle.send_adds.proofs.Sending.{ready_same}

-- ---- the program stays

pub resets_none : (s : Bytes) → Resets s s
resets_none s = record { size = refl; rows = λ q l. refl; rest = λ q l. refl }

pub resets_then : {s₀ s₁ s₂ : Bytes} → Resets s₀ s₁ → Resets s₁ s₂ → Resets s₀ s₂
resets_then h k = record { size = k.size ∙ h.size; rows = λ q l. k.rows q l ∙ h.rows q l; rest = λ q l. k.rest q l ∙ h.rest q l }

pub program_reset : (n : ℕ) {s s' : Bytes} → n ≤ row_limit → Resets s s' → store_program n s' ≡ store_program n s
program_reset n {s} {s'} few h = rows_same n s s' few h.rows

pub ready_reset : (n : ℕ) {s s' : Bytes} → Ready n s → Resets s s' → Ready n s'
ready_reset n {s} {s'} ready h = ready_same n s s' ready h.size h.rows

-- ---- changes

pub grows_none : (n : ℕ) (s : Bytes) → Grows n s s false
grows_none n s = record { resets = resets_none s; flags = λ h. h; fewer = omega arith; really = λ e. absurd (false≢true e); inside = λ flow comm t h. h }

pub grows_then : (n : ℕ) {s₀ s₁ s₂ : Bytes} {a b : Bool} → n ≤ row_limit → Grows n s₀ s₁ a → Grows n s₁ s₂ b → Grows n s₀ s₂ (a || b)
grows_then n {s₀} {s₁} {s₂} {a} {b} few h k =
    let e = program_reset n few h.resets in
    record {
      resets = resets_then h.resets k.resets;
      flags = λ f. k.flags (h.flags f);
      fewer = omega (arith, h.fewer, k.fewer);
      really = falls_then h.fewer k.fewer a b h.really k.really;
      inside = λ flow comm t i. k.inside flow comm (rw e t) (h.inside flow comm t i);
    }

pub grows_on : (n : ℕ) {s₀ s₁ s₂ : Bytes} {b : Bool} → n ≤ row_limit → Grows n s₀ s₁ false → Grows n s₁ s₂ b → Grows n s₀ s₂ false
grows_on n few h k =
    let j = grows_then n few h k in
    record { resets = j.resets; flags = j.flags; fewer = j.fewer; really = λ e. absurd (false≢true e); inside = j.inside }

-- by a rule that tables keep if they keep all
pub grows_by : (n : ℕ) (rule : Rule) {s s' : Bytes} {more : Bool} → ((flow comm : Table) → So (keeps_all (store_program n s) flow comm) → So (rule flow comm)) → Adds rule s s' more
    → Grows n s s' more
grows_by n rule asked h = record {
  resets = record { size = h.size; rows = h.rows; rest = h.rest };
  flags = h.flags;
  fewer = h.fewer;
  really = h.really;
  inside = λ flow comm t i. h.inside flow comm (asked flow comm t) i;
}

pub row_keeps : (n r : ℕ) (s : Bytes) (flow comm : Table) → r < n → So (keeps_all (store_program n s) flow comm) → So (keeps_at (store_program n s) flow comm r)
unfolding keeps_all
row_keeps n r s flow comm l t = all_elim n (keeps_at (store_program n s) flow comm) (rw (program_length n s) at t) r l

pub grows_row : (n r : ℕ) {s s' : Bytes} {more : Bool} → r < n → Adds (λ flow comm. keeps_at (store_program n s) flow comm r) s s' more → Grows n s s' more
grows_row n r {s} l h = grows_by n _ (λ flow comm t. row_keeps n r s flow comm l t) h

-- what a call asks, of a store that has grown
pub still_ready : (n : ℕ) (names : Bytes) {s s' : Bytes} {b : Bool} → Ready n s → Names (store_program n s) names → Grows n s s' b → Ready n s' × Names (store_program n s') names
still_ready n names ready h g = (ready_reset n ready g.resets, rw (program_reset n ready.few g.resets) h)

-- ---- rounds

-- what is left of the rounds: the bytes that are 0, and one round more while there was something to add
unfoldable pub rounds_left : Bytes → Bool → ℕ
rounds_left s more = zeros s + pick more 1 0

pub rounds_fall : (n : ℕ) {s s' : Bytes} {more : Bool} → Grows n s s' more → rounds_left s' more < rounds_left s true
unfolding rounds_left
rounds_fall n {more = true} h = omega (arith, h.really refl)
rounds_fall n {more = false} h = omega (arith, h.fewer)
