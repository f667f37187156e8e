-- The rules of all rows, as a round meets them.
use Prim.Native.Nat.{ℕ}
use mathlib.Core.Bool.{Bool}
use mathlib.Core.Path.{◌≡◌}
use Rattle.program.specs.Test.{all}
use Rattle.program.specs.Flow.{keeps_at, keeps_all}
use Rattle.format.specs.Text.{Bytes}
use Rattle.store.specs.Rows.{store_program}
use Rattle.store.proofs.Laws.{program_length}
use Rattle.set_adds.specs.Adding.{Adds}

module _ (rows k : ℕ) (e : k ≡ rows) {s s' : Bytes} {more : Bool} where
  pub rows_all : Adds (λ flow comm. all k (λ i. keeps_at (store_program rows s) flow comm i)) s s' more → Adds (λ flow comm. keeps_all (store_program rows s) flow comm) s s' more
  unfolding keeps_all
  rows_all h = rw (program_length rows s) (rw e at h)
