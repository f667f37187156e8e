-- The result that a row comes to is that of its rest.
use Prim.Native.Nat.{ℕ, zero, suc, ◌+◌, ◌≤◌}
use Rattle.std.specs.Prelude.{Some as some}
use mathlib.Core.Path.{◌≡◌, refl, sym, ◌∙◌, ap}
use native.Mathlib.Omega.{arith}
use lib.ListN.{length}
use Rattle.program.specs.declared.Row.{Row}
use Rattle.program.specs.declared.Bind.{Bind}
use Rattle.program.specs.Program.{Program, row_at, bind_of, bind_at, result_from, result_row}
use Rattle.program.proofs.Sound.Shape.{bind_bound, row_of, rest_rises_lem}
use Rattle.program.proofs.WellFormed.{WellFormed}

-- a row is a result or a bind
pub by_row : {X : Type 0} (p : Program) (r : ℕ) → ((n : ℕ) → row_at p r ≡ Row.Result n → X) → ((b : Bind) → bind_at p r ≡ some b → X) → X
unfolding bind_at bind_of
by_row {X} p r result bind = go (row_at p r) refl
  where
    go : (x : Row) → row_at p r ≡ x → X
    go (Row.Result n) e = result n e
    go (Row.Bind b) e = bind b (ap bind_of e)

result_here : (p : Program) (k r n : ℕ) → row_at p r ≡ Row.Result n → result_from k p r ≡ r
unfolding result_from
result_here p zero r n e = refl
result_here p (suc k) r n e = rw (e, result_from)

result_next : (p : Program) (k r : ℕ) (b : Bind) → bind_at p r ≡ some b → result_from (suc k) p r ≡ result_from k p b.rest
unfolding result_from
result_next p k r b e = rw (row_of p r b e, result_from)

module _ (p : Program) (well : WellFormed p) where
  -- more steps than there are rows change nothing
  stable : (k j r : ℕ) → length p ≤ k + r → length p ≤ j + r → result_from k p r ≡ result_from j p r
  stable zero j r l h =
      by_row p r (λ n e. result_here p zero r n e ∙ sym (result_here p j r n e)) (λ b e. absurd (omega (arith, bind_bound p r b e)))
  stable (suc k) zero r l h =
      by_row p r (λ n e. result_here p (suc k) r n e ∙ sym (result_here p zero r n e)) (λ b e. absurd (omega (arith, bind_bound p r b e)))
  stable (suc k) (suc j) r l h =
      by_row p r (λ n e. result_here p (suc k) r n e ∙ sym (result_here p (suc j) r n e))
      (λ b e. let rises = rest_rises_lem p well r b e in
      result_next p k r b e ∙ stable k j b.rest (omega arith) (omega arith) ∙ sym (result_next p j r b e))

  pub result_of_result : (r n : ℕ) → row_at p r ≡ Row.Result n → result_row p r ≡ r
  unfolding result_row
  result_of_result r n e = result_here p (length p) r n e

  pub result_of_bind : (r : ℕ) (b : Bind) → bind_at p r ≡ some b → result_row p b.rest ≡ result_row p r
  unfolding result_row
  result_of_bind r b e =
      sym (result_next p (length p) r b e) ∙ stable (suc (length p)) (length p) r (omega arith) (omega arith)
