-- States that the tables cover.
use Prim.Native.Nat.{ℕ}
use mathlib.Core.Bool.{So}
use mathlib.Core.List.{List, [], ◌∷◌}
use Rattle.std.specs.Prelude.{Some as some}
use mathlib.Core.Path.{◌≡◌}
use lib.ListN.{length}
use Rattle.program.specs.declared.Bind.{Bind}
use Rattle.program.specs.declared.Form.TheVariants.{Fun}
use Rattle.program.specs.Flow.{row, Table, lies, keeps_form, keeps_at, keeps_all}
use Rattle.program.specs.Program.{Program, row_at, bind_at, form_at, fun_at, name_of, result_row, result_name}
use Rattle.program.specs.Run.{Value, Env, Return, State, Move, proceed, enter}
use Rattle.program.specs.Walk.{plain, enters, edge}
use Rattle.program.proofs.Maybe.{Found, found, found_at, found_when, found_self, found_bind, found_map}
use Rattle.program.proofs.Sound.Edges.{Calls, calls_always, edge-rest, edge_call, edge_return}
use Rattle.program.proofs.Sound.Forms.{fun_form}
use Rattle.program.proofs.Sound.Result.{result_of_bind}
use Rattle.program.proofs.Sound.Shape.{bind_bound}
use Rattle.program.proofs.Sound.Values.{CoversEnv, Covered}
use Rattle.program.proofs.Test.{and_right, all_elim}
use Rattle.program.proofs.WellFormed.{WellFormed}

module _ (p : Program) (flow comm : Table) (keeps : So (keeps_all p flow comm)) where
  -- the flow rule of a bind
  pub rule_of : (r : ℕ) (b : Bind) → bind_at p r ≡ some b → So (keeps_form p flow comm r b.name b.form)
  unfolding keeps_all keeps_at
  rule_of r b e =
      found_at e (found_when (λ b. keeps_form p flow comm r b.name b.form) (bind_at p r) (all_elim (length p) (keeps_at p flow comm) keeps r (bind_bound p r b e)))

  -- the flow rule of a form
  rule_at : (r : ℕ) → Found (λ f. (n : ℕ) × So (keeps_form p flow comm r n f)) (form_at p r)
  unfolding form_at
  rule_at r = found_bind (found_self (bind_at p r)) λ b e. found (b.name, rule_of r b e)

  -- a fun row is in the set of the fun's own name
  pub fun_own : (r : ℕ) → Found (λ k. So (flow k.0 (row r))) (fun_at p r)
  unfolding fun_at keeps_form
  fun_own r = found_bind (rule_at r) λ f (n, h). found_map (λ k q. own n k (rw q at h)) (fun_form f)
    where
      own : (n : ℕ) (k : ℕ × ℕ × ℕ) → So (keeps_form p flow comm r n (Fun k.0 k.1 k.2)) → So (flow k.0 (row r))
      own n k h = search and_right

module _ (p : Program) (flow : Table) where
  -- from a result row: it steps to the rest that waits, whose name takes its value, and so on down
  abbrev pub CoversReturns : ℕ → List Return → Type 0
  CoversReturns s [] = Unit {0}
  CoversReturns s (k ∷ ks) =
      So (edge p flow s k.rest) × So (lies p (flow (name_of (row_at p s))) (flow k.name)) × CoversEnv p flow k.env × CoversReturns (result_row p k.rest) ks

  pub record Covers (st : State) : Type 0 where
    pub env : CoversEnv p flow st.env
    pub returns : CoversReturns (result_row p st.row) st.returns

  -- a move by a row step to a covered state
  pub record Sound (st : State) (m : Move) : Type 0 where
    pub steps : So (edge p flow st.row m.state.row)
    pub covers : Covers m.state

module _ (p : Program) (well : WellFormed p) (flow : Table) (st : State) (b : Bind) (at : bind_at p st.row ≡ some b) (c : Covers p flow st) where
  -- the returns that wait are those of the rest
  returns_of_rest : CoversReturns p flow (result_row p b.rest) st.returns
  returns_of_rest = rw (result_of_bind p well st.row b at) c.returns

  pub proceed_sound : So (plain b.form) → (v : Value) → Covered p flow b.name v → Sound p flow st (proceed st b v)
  unfolding proceed
  proceed_sound h v k = record { steps = edge-rest p flow st.row b at h; covers = record { env = (c.env, k); returns = returns_of_rest } }

  pub enter_sound : (t : ℕ) → Calls p flow (enters p flow) st.row t → So (lies p (flow (result_name p t)) (flow b.name)) → (env : Env) → CoversEnv p flow env
      → Sound p flow st (enter st b t env)
  unfolding enter result_name
  enter_sound t calls l env k = record {
    steps = edge_call p flow st.row t calls;
    covers = record { env = k; returns = (edge_return p flow st.row t b at (calls_always p flow (enters p flow) st.row t calls), l, c.env, returns_of_rest) };
  }
