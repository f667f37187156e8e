-- Where walks come to, as a relation that tells which rows are reached says.
use Prim.Native.Nat.{ℕ, ◌<◌}
use mathlib.Core.Bool.{Bool, ◌&&◌, So}
use Rattle.std.specs.Prelude.{Some as some}
use mathlib.Core.Path.{◌≡◌, refl, sym}
use mathlib.Core.Logic.{⊎_elim}
use lib.ListN.{length}
use lib.Dec.{eqb}
use borrow.Author.Tests.{eqb-true}
use Rattle.program.specs.Flow.{Table}
use Rattle.program.specs.Program.{Program, bind_at, fork_at, spawn_of}
use Rattle.program.specs.Snoc.{ε, ◌▷◌, Begins}
use Rattle.program.specs.Test.{any}
use Rattle.program.specs.Verdict.{reached, leads}
use Rattle.program.specs.Walk.{Walk, last_row, IsWalk, EndsAt}
use Rattle.program.proofs.Decides.Reach.{Reaches, walk_on, walk_between}
use Rattle.program.proofs.Decides.Targets.{edge_bound}
use Rattle.program.proofs.Maybe.{found, found_self, found_bind, found_at}
use Rattle.program.proofs.Snoc.{begins_refl, begins_nil, begins_cases, continues_begins}
use Rattle.program.proofs.Sound.Shape.{bind_bound}
use Rattle.program.proofs.Sound.Walks.{walk_begins}
use Rattle.program.proofs.Test.{and_left, and_right, and_intro, or_right, or_cases, any_intro, any_elim}
use Rattle.program.proofs.WellFormed.{WellFormed}

module _ (p : Program) (flow : Table) where
  -- a test that tells which rows of the program are reached from which
  pub record TellsReach (reach : ℕ → ℕ → Bool) : Type 0 where
    pub sound : (r s : ℕ) → r < length p → s < length p → So (reach r s) → Reaches p flow r s
    pub complete : (r s : ℕ) → r < length p → Reaches p flow r s → So (reach r s)

pub fork_row : (p : Program) (r t rest : ℕ) → fork_at p r ≡ some (t, rest) → r < length p
unfolding fork_at
fork_row p r t rest e = found_at {P = λ x. r < length p} e (found_bind (found_self (bind_at p r)) λ b at. found_bind (found_self (spawn_of b.form)) λ t _. found (bind_bound p r b at))

module _ (p : Program) (well : WellFormed p) (flow : Table) (rows : 0 < length p) (reach : ℕ → ℕ → Bool) (tells : TellsReach p flow reach) where
  -- a walk stays in the program
  pub walk_bound : (w : Walk) → IsWalk p flow w → last_row w < length p
  unfolding IsWalk last_row
  walk_bound ε h = rows
  walk_bound (w ▷ r) (h, e) = edge_bound p well flow (last_row w) r e

  pub walk_reached : (w : Walk) → IsWalk p flow w → So (reached p reach (last_row w))
  unfolding reached last_row
  walk_reached ε h = refl
  walk_reached (w ▷ r) h = or_right (eqb r 0) (tells.complete 0 r rows (walk_between p flow ε (w ▷ r) h (begins_nil w)))

  pub reached_walk : (r : ℕ) → r < length p → So (reached p reach r) → (w : Walk) × IsWalk p flow w × (last_row w ≡ r)
  unfolding reached IsWalk last_row
  reached_walk r l h = ⊎_elim (λ e. (ε, tt, sym (eqb-true r 0 e))) (λ e. let (w, i, q, c) = walk_on p flow ε r tt (tells.sound 0 r rows l e) in (w, i, q)) (or_cases (eqb r 0) (reach 0 r) h)

  module _ (places : ℕ → Bool) where
    -- a place that a walk comes to after a row is one that the row leads to
    pub leads_to : (w v : Walk) (t : ℕ) → EndsAt p flow places v → Begins (w ▷ t) v → So (leads p reach places t)
    unfolding leads EndsAt last_row IsWalk
    leads_to w v t (h, q) b =
        ⊎_elim (λ e. rw (rw (← e) at q))
        (λ c. or_right (places t) (any_intro _ (last_row v) (walk_bound v h)
        (and_intro (tells.complete t (last_row v) (walk_bound (w ▷ t) (walk_begins p flow (w ▷ t) v h b)) (walk_between p flow (w ▷ t) v h c)) q)))
        (begins_cases (w ▷ t) v b)

    pub from_lead : (w : Walk) (t : ℕ) → IsWalk p flow (w ▷ t) → So (leads p reach places t) → (v : Walk) × EndsAt p flow places v × Begins (w ▷ t) v
    unfolding leads EndsAt last_row
    from_lead w t h i = ⊎_elim (λ q. (w ▷ t, (h, q), begins_refl (w ▷ t))) onward (or_cases (places t) _ i)
      where
        onward : So (any (length p) λ s. reach t s && places s) → (v : Walk) × EndsAt p flow places v × Begins (w ▷ t) v
        onward j =
            let (s, l, k) = any_elim (length p) _ j in
            let (v, g, e, c) = walk_on p flow (w ▷ t) s h (tells.sound t s (walk_bound (w ▷ t) h) l (and_left (reach t s) (places s) k)) in
            (v, (g, rw e (and_right (reach t s) (places s) k)), continues_begins (w ▷ t) v c)
