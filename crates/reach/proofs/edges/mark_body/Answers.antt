-- `mark_body` meets its contract: row k is not in the set, or is no fun row, or is called.
use Prim.Native.Nat.{ℕ}
use mathlib.Core.Path.{◌≡◌, refl, sym, ◌∙◌}
use mathlib.Core.Bool.{false}
use Rattle.program.specs.Program.{Program}
use Rattle.store.proofs.Laws.{program_length}
use Rattle.reach.specs.Edges.{kind_called}
use Rattle.row_kinds.specs.declared.Kind.TheVariants.{End, Next, Body, Fork, Branch, Call}
use Rattle.row_kinds.specs.declared.Kind.{Kind}
use Rattle.grids.proofs.Stepping.{follows_none, follows_as}
use Rattle.reach.proofs.Giving.{body_out, body_none, body_in}
use Rattle.reach.proofs.edges.mark_body.Goals as goal

-- a row of another kind gives nothing
no_body : (p : Program) (q rest : ℕ) (kind : Kind) → ((t w : ℕ) → kind ≡ Body t w → ⊥) → (r s : ℕ) → kind_called p q rest kind r s ≡ false
unfolding kind_called
no_body p q rest End n r s = refl
no_body p q rest (Next rest') n r s = refl
no_body p q rest (Body t rest') n r s = absurd (n t rest' refl)
no_body p q rest (Fork t rest') n r s = refl
no_body p q rest (Branch k t w rest') n r s = refl
no_body p q rest (Call f rest') n r s = refl

pub returns-then-not-flow_has : goal.returns-then-not-flow_has
returns-then-not-flow_has c = follows_none _ (λ r s lr ls. body_out _ _ _ _ _ _ (sym c.flow_has.ensures ∙ c.if-not-flow_has.true) r s)

pub returns-in_default : goal.returns-in_default
returns-in_default c = follows_none _ (λ r s lr ls. body_none _ _ _ _ _ _ (λ r s. rw (← c.kind_at.ensures) (no_body _ _ _ _ c.in_default.not-Body r s)) r s)

pub returns : goal.returns
returns c = follows_as (body_in _ _ _ _ _ _ (sym c.flow_has.ensures ∙ c.if-not-flow_has.false) (sym c.kind_at.ensures ∙ c.in-Body.is)
    (c.result_of-result.ensures _ (program_length _ _) c.requires.result_rows))
    c.mark_call.ensures
