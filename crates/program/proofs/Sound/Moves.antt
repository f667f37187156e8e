-- The steps of one thread go by row steps, to covered states; where there are two, they part at a spawn row.
use Prim.Native.Nat.{ℕ}
use mathlib.Core.Bool.{◌&&◌, So}
use mathlib.Core.List.{List, [], ◌∷◌}
use Rattle.std.specs.Prelude.{Option, Some as some}
use mathlib.Core.Path.{◌≡◌, refl}
use mathlib.Core.Logic.{◌≢◌, ◌⊎◌, inl, inr}
use native.Mathlib.Omega.{arith}
use Rattle.program.specs.declared.Row.{Row}
use Rattle.program.specs.declared.Bind.{Bind}
use Rattle.program.specs.declared.Form.{Form}
use Rattle.program.specs.declared.Form.TheVariants.{Chan, Send, Recv, Pair, Left, Right, Fun, Spawn, Sync, First, Second, Case, Apply}
use Rattle.program.specs.Flow.{u, row, Table, lies, for_each, keeps_form, keeps_all}
use Rattle.program.specs.Maybe.{◌>>=◌, when}
use Rattle.program.specs.Program.{Program, row_at, bind_at, name_of, chan_at, fork_at, pair_at, left_at, right_at, fun_at, result_name}
use Rattle.program.specs.Run.{next, spawn, Path, made, Value, unit, channel, closure, Env, extend, lookup, closure_at, Return, State, Move, proceed, enter, start, form_moves, result_moves, moves}
use Rattle.program.specs.Walk.{plain, enters}
use Rattle.program.specs.Each.{Each, nil, ◌&◌}
use Rattle.program.proofs.Each.{EachTwo}
use Rattle.program.proofs.Maybe.{Found, nothing, found, found_self, found_bind, found_both, found_either, found_when}
use Rattle.program.proofs.Sound.Edges.{Calls, entered, form_at_lem, edge_child, calls_left, calls_right, calls_body}
use Rattle.program.proofs.Sound.Result.{by_row, result_of_result}
use Rattle.program.proofs.Sound.Shape.{bind_bound, row_of}
use Rattle.program.proofs.Sound.States.{rule_of, fun_own, CoversReturns, Covers, Sound, proceed_sound, enter_sound}
use Rattle.program.proofs.Sound.Values.{CoversEnv, Covered, each_elim, lookup_covered, closure_covered, lies_elim}
use Rattle.program.proofs.Test.{and_left, and_right}
use Rattle.program.proofs.WellFormed.{WellFormed}

spawn_next : (n : ℕ) → spawn n ≢ next n
spawn_next n e = let z : ◌≡◌ {A = ℕ} 0 1 = cc in omega arith

module _ (p : Program) (st : State) where
  -- one enters what a spawn row spawns and the other its rest, by another label
  abbrev pub Splits : Move → Move → Type 0
  Splits m₁ m₂ = (fork_at p st.row ≡ some (m₁.state.row, m₂.state.row)) × (m₁.label ≢ m₂.label)

  -- two moves are one, or split
  abbrev pub Forked : Move → Move → Type 0
  Forked m₁ m₂ = (m₁ ≡ m₂) ⊎ (Splits m₁ m₂ ⊎ Splits m₂ m₁)

module _ (p : Program) (flow : Table) (st : State) where
  pub record Legal (ms : List Move) : Type 0 where
    pub sound : Each (Sound p flow st) ms
    pub forked : EachTwo (Forked p st) ms

  one_legal : (m : Move) → Sound p flow st m → Legal (m ∷ [])
  one_legal m h = record { sound = h & nil; forked = (inl refl & nil) & nil }

module _ (p : Program) (well : WellFormed p) (flow comm : Table) (keeps : So (keeps_all p flow comm))
    (path : Path) (st : State) (c : Covers p flow st) (b : Bind) (at : bind_at p st.row ≡ some b) where
  -- on with a value; one that another name has; a value row's own
  on_with : So (plain b.form) → (v : Value) → Covered p flow b.name v → Found (Legal p flow st) (some (proceed st b v ∷ []))
  on_with h v k = found (one_legal p flow st (proceed st b v) (proceed_sound p well flow st b at c h v k))

  on_with_lying : So (plain b.form) → (x : ℕ) → So (lies p (flow x) (flow b.name)) → (v : Value) → Covered p flow x v
      → Found (Legal p flow st) (some (proceed st b v ∷ []))
  on_with_lying h x l v (m, k) = on_with h v (lies_elim p flow (flow x) (flow b.name) l v k m, k)

  on_with_own : So (plain b.form) → So (flow b.name (row st.row)) → Found (Legal p flow st) (some (proceed st b (closure st.row st.env) ∷ []))
  on_with_own h m = on_with h (closure st.row st.env) (m, (bind_bound p st.row b at, c.env))

  -- into a branch or a body, one more name having a value
  into : (t : ℕ) → Calls p flow (enters p flow) st.row t → So (lies p (flow (result_name p t)) (flow b.name)) → (env : Env) → CoversEnv p flow env
      → Found (Legal p flow st) (some (enter st b t env ∷ []))
  into t calls l env k = found (one_legal p flow st (enter st b t env) (enter_sound p well flow st b at c t calls l env k))

  chan_legal : b.form ≡ Chan → So (flow b.name (row st.row)) → Found (Legal p flow st) (some (proceed st b (channel (made path b.name)) ∷ []))
  unfolding chan_at ◌>>=◌
  chan_legal q h = on_with (rw q) (channel (made path b.name)) ((st.row, rw (at, q), h), tt)

  spawn_legal : (t : ℕ) → b.form ≡ Spawn t → So (flow b.name u) → Found (Legal p flow st) (some (proceed st b unit ∷ start st b t ∷ []))
  unfolding fork_at ◌>>=◌ start proceed
  spawn_legal t q h =
      let forks : fork_at p st.row ≡ some (t, b.rest) = rw (at, q) in
      found (record {
        sound = proceed_sound p well flow st b at c (rw q) unit (h, tt)
            & record { steps = edge_child p flow st.row t b.rest forks; covers = record { env = c.env; returns = tt } } & nil;
        forked = (inl refl & inr (inr (forks, spawn_next b.name)) & nil) & (inr (inl (forks, spawn_next b.name)) & inl refl & nil) & nil;
      })

  -- a part of a pair
  part_legal : (part : ℕ × ℕ → ℕ) (a : ℕ) → So (plain b.form) → So (for_each p (flow a) λ s. when (pair_at p s) λ xy. lies p (flow (part xy)) (flow b.name))
      → Found (Legal p flow st) (closure_at st.env a >>= λ k. pair_at p k.0 >>= λ xy. lookup k.1 (part xy) >>= λ v. some (proceed st b v ∷ []))
  part_legal part a h rule =
      found_bind (closure_covered p flow st.env a c.env) λ (r, env) (m, l, k).
      found_bind (found_when _ (pair_at p r) (each_elim p (flow a) _ rule r l m)) λ xy lie.
      found_bind (lookup_covered p flow env (part xy) k) λ v covered.
      on_with_lying h (part xy) lie v covered

  -- a branch of a case
  branch_legal : (o : Option ℕ) (x t : ℕ) → ((a : ℕ) → o ≡ some a → Calls p flow (enters p flow) st.row t)
      → So (when o λ a. lies p (flow a) (flow x) && lies p (flow (result_name p t)) (flow b.name))
      → (env : Env) → CoversEnv p flow env
      → Found (Legal p flow st) (o >>= λ a. lookup env a >>= λ v. some (enter st b t (extend st.env x v) ∷ []))
  branch_legal o x t calls rule env k =
      found_bind (found_both (found_self o) (found_when _ o rule)) λ a (e, lie).
      found_bind (lookup_covered p flow env a k) λ v (m, h).
      into t (calls a e) (search and_right) (extend st.env x v) (c.env, (lies_elim p flow (flow a) (flow x) (search and_left) v h m, h))

  case_legal : (s x t y w : ℕ) → b.form ≡ Case s x t y w → So (keeps_form p flow comm st.row b.name (Case s x t y w))
      → Found (Legal p flow st) (form_moves p path st b (Case s x t y w))
  unfolding form_moves keeps_form
  case_legal s x t y w q rule =
      let form = form_at_lem p st.row b (Case s x t y w) at q in
      found_bind (closure_covered p flow st.env s c.env) λ (r, env) (m, l, k).
      let both = each_elim p (flow s) _ rule r l m in
      let fed : (side : ℕ → Option ℕ) (a : ℕ) → side r ≡ some a → So (enters p flow s side) = λ side a e. entered p flow s r a side l m e in
      found_either
      (branch_legal (left_at p r) x t (λ a e. calls_left p flow (enters p flow) st.row s x t y w form (fed (left_at p) a e)) (search and_left) env k)
      (branch_legal (right_at p r) y w (λ a e. calls_right p flow (enters p flow) st.row s x t y w form (fed (right_at p) a e)) (search and_right) env k)

  apply_legal : (f a : ℕ) → b.form ≡ Apply f a → So (keeps_form p flow comm st.row b.name (Apply f a))
      → Found (Legal p flow st) (form_moves p path st b (Apply f a))
  unfolding form_moves keeps_form
  apply_legal f a q rule =
      found_bind (closure_covered p flow st.env f c.env) λ (r, env) (m, l, k).
      found_bind (found_both (found_self (fun_at p r)) (found_both (fun_own p flow comm keeps r) (found_when _ (fun_at p r) (each_elim p (flow f) _ rule r l m)))) λ (g, x, t) (fun, (own, lie)).
      found_bind (lookup_covered p flow st.env a c.env) λ v (i, h).
      into t (calls_body p flow (enters p flow) st.row f a r g x t (form_at_lem p st.row b (Apply f a) at q) l m fun) (search and_right)
      (extend (extend env g (closure r env)) x v) ((k, (own, (l, k))), (lies_elim p flow (flow a) (flow x) (search and_left) v h i, h))

  form_legal : (f : Form) → b.form ≡ f → So (keeps_form p flow comm st.row b.name f) → Found (Legal p flow st) (form_moves p path st b f)
  unfolding form_moves keeps_form
  form_legal Form.Unit q h = on_with (rw q) unit (h, tt)
  form_legal Chan q h = chan_legal q h
  form_legal (Send x m) q h = on_with_own (rw q) h
  form_legal (Recv x) q h = on_with_own (rw q) h
  form_legal (Pair x y) q h = on_with_own (rw q) h
  form_legal (Left x) q h = on_with_own (rw q) h
  form_legal (Right x) q h = on_with_own (rw q) h
  form_legal (Fun f x t) q h = on_with_own (rw q) (search and_left)
  form_legal (Spawn t) q h = spawn_legal t q h
  form_legal (Sync e) q h = nothing
  form_legal (First a) q h = part_legal (λ xy. xy.0) a (rw q) h
  form_legal (Second a) q h = part_legal (λ xy. xy.1) a (rw q) h
  form_legal (Case s x t y w) q h = case_legal s x t y w q h
  form_legal (Apply f a) q h = apply_legal f a q h

module _ (p : Program) (well : WellFormed p) (flow comm : Table) (keeps : So (keeps_all p flow comm)) (path : Path) (st : State) (c : Covers p flow st) where
  -- a result goes back to what waits
  result_legal : (n : ℕ) → row_at p st.row ≡ Row.Result n → (ks : List Return) → CoversReturns p flow st.row ks → Found (Legal p flow st) (result_moves p path st n ks)
  unfolding result_moves name_of
  result_legal n e [] h = nothing
  result_legal n e (k ∷ ks) (steps, lie, env, h) =
      found_bind (lookup_covered p flow st.env n c.env) λ v (m, i).
      found (one_legal p flow st _ (record { steps = steps; covers = record { env = (env, (lies_elim p flow _ (flow k.name) (rw e at lie) v i m, i)); returns = h } }))

  pub moves_legal : Found (Legal p flow st) (moves p path st)
  unfolding moves
  moves_legal =
      by_row p st.row
      (λ n e. rw (e, moves) (result_legal n e st.returns (rw (result_of_result p well st.row n e) at c.returns)))
      (λ b at. rw (row_of p st.row b at, moves) (form_legal p well flow comm keeps path st c b at b.form refl (rule_of p flow comm keeps st.row b at)))
