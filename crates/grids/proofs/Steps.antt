-- The closure of a relation between the first n rows: it has the relation, goes on through it, and has nothing else.
use Prim.Native.Nat.{ℕ, ◌<◌}
use native.Mathlib.Omega.{arith}
use mathlib.Core.Bool.{Bool, So}
use Rattle.program.specs.Closure.{closure, grid, closed}
use Rattle.program.proofs.Decides.Closure.{via_first, via_trans, via_only, grid-cell}

module _ (n : ℕ) (f : ℕ → ℕ → Bool) where
  pub closed_first : (r s : ℕ) → r < n → s < n → So (f r s) → So (closed n f r s)
  unfolding closed closure
  closed_first r s l m h = via_first (grid n f) n r s (rw (grid-cell n f r s l m) h)

  pub closed_on : (r m s : ℕ) → m < n → So (closed n f r m) → So (closed n f m s) → So (closed n f r s)
  unfolding closed
  closed_on r m s l h i = via_trans (grid n f) n m r s l h i

  -- what has the relation and goes on has the closure
  pub closed_only : (R : ℕ → ℕ → Type 0) → ((r s : ℕ) → r < n → s < n → So (f r s) → R r s) → ((r m s : ℕ) → R r m → R m s → R r s)
      → (r s : ℕ) → r < n → s < n → So (closed n f r s) → R r s
  unfolding closed closure
  closed_only R first on r s l m h = via_only (grid n f) R n (λ r s l m h. first r s l m (rw (grid-cell n f r s l m) at h)) on n r s (omega arith) l m h
