-- Tables that hold all that tables may hold keep every flow rule.
use Prim.Native.Nat.{ℕ}
use mathlib.Core.Bool.{So}
use mathlib.Core.List.{◌∷◌}
use Rattle.std.specs.Prelude.{Some as some}
use mathlib.Core.Path.{◌≡◌, refl}
use Rattle.program.specs.declared.Bind.{Bind}
use Rattle.program.specs.declared.Form.{Form}
use Rattle.program.specs.declared.Form.TheVariants.{Chan, Send, Recv, Pair, Left, Right, Fun, Spawn, Sync, First, Second, Case, Apply}
use Rattle.program.specs.Each.{Member, here, there}
use Rattle.program.specs.Maybe.{◌>>=◌}
use Rattle.program.specs.Program.{Program, bind_at, form_at, fun_at, fun_of, chan_at, binders, binders_of, is_value, value_row, chan_row}
use Rattle.program.specs.Flow.{u, row, Table}
use Rattle.program.specs.FlowRule.{Lies, FlowRule, KeepsAll}
use Rattle.least.specs.Least.{Variable, name, channel, variable_allowed, member_allowed, widest}
use Rattle.program.proofs.Maybe.{Found, found, found_self, found_map, found_bind, found_at, has_intro}
use Rattle.program.proofs.Sound.Forms.{fun_form}
use Rattle.program.proofs.Sound.Shape.{bind_bound, row_of, member_elem, member_collect}
use Rattle.program.proofs.Test.{and_right, and_intro}

module _ (p : Program) where
  unfoldable pub widest_flow : Table
  widest_flow n = widest p (name n)

  unfoldable pub widest_comm : Table
  widest_comm c = widest p (channel c)

  bound : (r : ℕ) (b : Bind) → bind_at p r ≡ some b → (n : ℕ) → Member n (b.name ∷ binders_of b.form) → So (variable_allowed p (name n))
  unfolding variable_allowed binders
  bound r b e n m = member_elem (member_collect binders n p r (bind_bound p r b e) (rw (row_of p r b e) m))

  chan_allowed : (c n : ℕ) → chan_at p c ≡ some n → So (variable_allowed p (channel c))
  unfolding variable_allowed chan_row
  chan_allowed c n e = has_intro _ e refl

  value_allowed : (r : ℕ) (b : Bind) → bind_at p r ≡ some b → So (is_value b.form) → So (member_allowed p (row r))
  unfolding member_allowed value_row form_at ◌>>=◌
  value_allowed r b e t = has_intro is_value {a = b.form} (rw e) t

  param_allowed : (k : ℕ) (g : ℕ × ℕ × ℕ) → fun_at p k ≡ some g → So (variable_allowed p (name g.1))
  unfolding fun_at form_at
  param_allowed k g e = found_at e (found_bind (found_bind (found_self (bind_at p k)) (λ b q. found (b, q, refl))) forms)
    where
      forms : (f : Form) → ((b : Bind) × (bind_at p k ≡ some b) × (f ≡ b.form)) → Found (λ (g : ℕ × ℕ × ℕ). So (variable_allowed p (name g.1))) (fun_of f)
      forms f (b, q, s) = found_map (λ g h. let i : b.form ≡ Fun g.0 g.1 g.2 = cc in bound k b q g.1 (rw i (there (there (here refl))))) (fun_form f)

  -- what is allowed lies in an allowed set
  lies_in : (s q : Variable) → So (variable_allowed p q) → Lies p (widest p s) (widest p q)
  unfolding widest
  lies_in s q h = (λ t. and_intro h (and_right (variable_allowed p s) _ t), λ r l t. and_intro h (and_right (variable_allowed p s) _ t))

  module _ (r : ℕ) (b : Bind) (e : bind_at p r ≡ some b) where
    own : So (variable_allowed p (name b.name))
    own = bound r b e b.name (here refl)

    unit_in : So (widest_flow b.name u)
    unfolding widest_flow widest member_allowed
    unit_in = and_intro own refl

    value_in : (n : ℕ) → So (variable_allowed p (name n)) → So (is_value b.form) → So (widest_flow n (row r))
    unfolding widest_flow widest
    value_in n h t = and_intro h (value_allowed r b e t)

    widest_rule : (f : Form) → b.form ≡ f → FlowRule p widest_flow widest_comm r b.name f
    unfolding widest_flow widest_comm
    widest_rule Form.Unit q = unit_in
    widest_rule Chan q = value_in _ own (rw q)
    widest_rule (Send c m) q = value_in _ own (rw q)
    widest_rule (Recv c) q = value_in _ own (rw q)
    widest_rule (Pair x y) q = value_in _ own (rw q)
    widest_rule (Left a) q = value_in _ own (rw q)
    widest_rule (Right a) q = value_in _ own (rw q)
    widest_rule (Fun f x t) q = (value_in _ own (rw q), value_in _ (bound r b e f (rw q (there (here refl)))) (rw q))
    widest_rule (Spawn t) q = unit_in
    widest_rule (Sync v) q = λ s l i. (λ a k j m t n h. (unit_in, lies_in _ _ (chan_allowed j n h)), λ a k j m t n h. lies_in _ _ own)
    widest_rule (First a) q = λ s l i x k. lies_in _ _ own
    widest_rule (Second a) q = λ s l i x k. lies_in _ _ own
    widest_rule (Case s x t y w) q = λ k l i. (
      λ a h. (lies_in _ _ (bound r b e x (rw q (there (here refl)))), lies_in _ _ own),
      λ a h. (lies_in _ _ (bound r b e y (rw q (there (there (here refl))))), lies_in _ _ own),
    )
    widest_rule (Apply f a) q = λ k l i g h. (lies_in _ _ (param_allowed k g h), lies_in _ _ own)

  pub widest_keeps : KeepsAll p widest_flow widest_comm
  unfolding KeepsAll
  widest_keeps r b e = widest_rule r b e b.form refl
