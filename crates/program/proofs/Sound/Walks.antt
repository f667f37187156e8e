-- Walks that part are not ordered; what begins a walk is a walk.
use Prim.Native.Nat.{ℕ}
use Rattle.std.specs.Prelude.{Some as some}
use mathlib.Core.Path.{◌≡◌, refl, ap}
use mathlib.Core.Logic.{inl, inr}
use Rattle.program.specs.Flow.{Table}
use Rattle.program.specs.Program.{Program, fork_at}
use Rattle.program.specs.Snoc.{ε, ◌▷◌, Begins, Ordered}
use Rattle.program.specs.Walk.{Walk, last_row, IsWalk, Parted}
use Rattle.program.proofs.Snoc.{size, begins_trans, begins_same}
use Rattle.program.proofs.Sound.Shape.{fork_differs}
use Rattle.program.proofs.WellFormed.{WellFormed}

module _ (p : Program) (well : WellFormed p) where
  -- no walk goes on both ways from a spawn row
  pub one_way : (w common : Walk) (child rest : ℕ) → fork_at p (last_row common) ≡ some (child, rest) → Begins (common ▷ child) w → Begins (common ▷ rest) w → ⊥
  unfolding size last_row
  one_way w common child rest e b d = fork_differs p well (last_row common) child rest e (ap last_row (begins_same (common ▷ child) (common ▷ rest) w b d refl))

  -- so walks that part are not ordered
  pub parted_apart : (w₁ w₂ : Walk) → Parted p w₁ w₂ → Ordered w₁ w₂ → ⊥
  parted_apart w₁ w₂ h (inl b) = one_way w₂ h.common h.child h.rest h.forks (begins_trans (h.common ▷ h.child) w₁ w₂ h.first b) h.second
  parted_apart w₁ w₂ h (inr b) = one_way w₁ h.common h.child h.rest h.forks h.first (begins_trans (h.common ▷ h.rest) w₂ w₁ h.second b)

pub walk_begins : (p : Program) (flow : Table) (w v : Walk) → IsWalk p flow v → Begins w v → IsWalk p flow w
unfolding IsWalk
walk_begins p flow w ε h e = rw e tt
walk_begins p flow w (v ▷ r) h (inl e) = rw e h
walk_begins p flow w (v ▷ r) (h, e) (inr b) = walk_begins p flow w v h b
