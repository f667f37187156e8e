-- The row steps that a run takes.
use Prim.Native.Nat.{ℕ, ◌<◌}
use mathlib.Core.Bool.{Bool, ◌&&◌, ◌||◌, So}
use Rattle.std.specs.Prelude.{Option, Some as some}
use mathlib.Core.Path.{◌≡◌, refl}
use lib.ListN.{length}
use lib.Dec.{eqb}
use Rattle.program.specs.declared.Bind.{Bind}
use Rattle.program.specs.declared.Form.{Form}
use Rattle.program.specs.declared.Form.TheVariants.{Case, Apply}
use Rattle.program.specs.Flow.{row, Table}
use Rattle.program.specs.Maybe.{◌>>=◌, has}
use Rattle.program.specs.Program.{Program, bind_at, form_at, case_of, left_at, right_at, fork_at, fun_at, result_row}
use Rattle.program.specs.Walk.{plain, Sides, always, enters, some_called, to_rest, to_child, to_called, to_caller, edge}
use Rattle.program.proofs.Maybe.{found, found_self, found_bind, found_at, has_intro, has_mono}
use Rattle.program.proofs.Sound.Forms.{spawn_form}
use Rattle.program.proofs.Sound.Shape.{bind_bound}
use Rattle.program.proofs.Test.{and_intro, or_left, or_right, or_mono, and_mono, any_intro, eqb_same}

pub form_at_lem : (p : Program) (r : ℕ) (b : Bind) (f : Form) → bind_at p r ≡ some b → b.form ≡ f → form_at p r ≡ some f
unfolding form_at ◌>>=◌
form_at_lem p r b f e q = rw (e, q)

module _ (p : Program) (flow : Table) where
  module _ (counts : Sides) where
    -- row q may call row t, by the sides that count: a test that holds of t holds of some row that q may call
    abbrev pub Calls : ℕ → ℕ → Type 0
    Calls q t = (f : ℕ → Bool) → So (f t) → So (some_called p flow counts q f)

    pub calls_left : (q s x t y w : ℕ) → form_at p q ≡ some (Case s x t y w) → So (counts s (left_at p)) → Calls q t
    unfolding some_called has
    calls_left q s x t y w e c f h = has_intro _ e (rw (c, h))

    pub calls_right : (q s x t y w : ℕ) → form_at p q ≡ some (Case s x t y w) → So (counts s (right_at p)) → Calls q w
    unfolding some_called has
    calls_right q s x t y w e c f h = has_intro _ e (or_left _ (or_right (counts s (left_at p) && f t) (and_intro c h)))

    pub calls_body : (q g a s h x t : ℕ) → form_at p q ≡ some (Apply g a) → s < length p → So (flow g (row s)) → fun_at p s ≡ some (h, x, t) → Calls q t
    unfolding some_called has
    calls_body q g a s h x t e l m k f i = has_intro _ e (any_intro _ s l (and_intro m (has_intro _ k i)))

    -- what a row may call by some sides, it may call by both
    called_always : (q : ℕ) (f : ℕ → Bool) → So (some_called p flow counts q f) → So (some_called p flow always q f)
    unfolding some_called
    called_always q f =
        has_mono (form_at p q) _ _ λ k.
        or_mono (has (case_of k) (λ (s, x, t, y, w). (counts s (left_at p) && f t) || (counts s (right_at p) && f w))) _ _ _
        (has_mono (case_of k) _ _ λ (s, x, t, y, w).
        or_mono (counts s (left_at p) && f t) _ _ _ (and_mono (counts s (left_at p)) _ _ _ (λ _. refl) (λ h. h))
        (and_mono (counts s (right_at p)) _ _ _ (λ _. refl) (λ h. h)))
        (λ h. h)

    pub calls_always : (q t : ℕ) → Calls q t → (f : ℕ → Bool) → So (f t) → So (some_called p flow always q f)
    calls_always q t calls f h = called_always q f (calls f h)

  -- a side with a row in the set of the case's subject is entered
  pub entered : (s k a : ℕ) (side : ℕ → Option ℕ) → k < length p → So (flow s (row k)) → side k ≡ some a → So (enters p flow s side)
  unfolding enters
  entered s k a side l m e = refl

  pub edge-rest : (r : ℕ) (b : Bind) → bind_at p r ≡ some b → So (plain b.form) → So (edge p flow r b.rest)
  unfolding edge to_rest
  edge-rest r b e h = rw (has_intro _ e (and_intro h (eqb_same b.rest)))

  pub edge_child : (r t rest : ℕ) → fork_at p r ≡ some (t, rest) → So (edge p flow r t)
  unfolding edge to_child
  edge_child r t rest e = search (or_left, or_right, has_intro (λ x. eqb t x.0) e (eqb_same t))

  pub edge_fork_rest : (r t rest : ℕ) → fork_at p r ≡ some (t, rest) → So (edge p flow r rest)
  unfolding fork_at
  edge_fork_rest r t rest e =
      found_at {P = λ x. So (edge p flow r x.1)} e
      (found_bind (found_self (bind_at p r)) λ b at. found_bind (spawn_form b.form) λ t q. found (edge-rest r b at (rw q)))

  pub edge_call : (q t : ℕ) → Calls (enters p flow) q t → So (edge p flow q t)
  unfolding edge to_called
  edge_call q t c = search (or_left, or_right, c (eqb t) (eqb_same t))

  caller_rest : (q t : ℕ) (b : Bind) → bind_at p q ≡ some b → Calls always q t → So (to_caller p flow (result_row p t) b.rest)
  unfolding to_caller
  caller_rest q t b e c =
      any_intro _ q (bind_bound p q b e) (and_intro (has_intro _ e (eqb_same b.rest)) (c (λ s. eqb (result_row p t) (result_row p s)) (eqb_same (result_row p t))))

  pub edge_return : (q t : ℕ) (b : Bind) → bind_at p q ≡ some b → Calls always q t → So (edge p flow (result_row p t) b.rest)
  unfolding edge
  edge_return q t b e c = search (or_right, caller_rest q t b e c)
