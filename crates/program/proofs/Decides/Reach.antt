-- Walks go where rows are reached.
use Prim.Native.Nat.{ℕ}
use mathlib.Core.Path.{◌≡◌, refl}
use mathlib.Core.Logic.{⊎_elim}
use Rattle.program.specs.Flow.{Table}
use Rattle.program.specs.Program.{Program}
use Rattle.program.specs.Snoc.{ε, ◌▷◌, Continues}
use Rattle.program.specs.Walk.{Walk, last_row, edge, IsWalk}
use Rattle.program.proofs.Decides.Closure.{Steps, one, more}
use Rattle.program.proofs.Snoc.{begins_refl, begins_cases, continues_begins}

-- by one or more row steps
abbrev pub Reaches : Program → Table → ℕ → ℕ → Type 0
Reaches p flow = Steps (edge p flow)

module _ (p : Program) (flow : Table) where
  -- a walk goes on to what is reached from its end
  pub walk_on : (w : Walk) (s : ℕ) → IsWalk p flow w → Reaches p flow (last_row w) s → (v : Walk) × IsWalk p flow v × (last_row v ≡ s) × Continues w v
  unfolding IsWalk last_row
  walk_on w s h (one e) = (w ▷ s, (h, e), refl, begins_refl w)
  walk_on w s h (more {t = t} r e) = let (v, k, q, c) = walk_on w t h r in (v ▷ s, (k, rw q e), refl, continues_begins w v c)

  -- and from there it comes to where a walk that continues it ends
  pub walk_between : (w v : Walk) → IsWalk p flow v → Continues w v → Reaches p flow (last_row w) (last_row v)
  unfolding IsWalk last_row
  walk_between w ε h c = absurd c
  walk_between w (v ▷ s) (h, e) c = ⊎_elim (λ q. one (rw q e)) (λ k. more (walk_between w v h k) e) (begins_cases w v c)
