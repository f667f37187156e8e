-- The executable flow rules are equivalent to the propositions.
use Prim.Native.Nat.{ℕ}
use mathlib.Core.Bool.{Bool, So, and-eq-true_iff}
use Rattle.std.specs.Prelude.{Option, Some as some}
use mathlib.Core.Path.{◌≡◌}
use mathlib.Core.Logic.Iff
use mathlib.Core.Logic.{◌↔◌}
use lib.ListN.{length}
use Rattle.program.specs.declared.Form.{Form}
use Rattle.program.specs.declared.Form.TheVariants.{Chan, Send, Recv, Pair, Left, Right, Fun, Spawn, Sync, First, Second, Case, Apply}
use Rattle.program.specs.Flow.{u, row, Set, Table, for_each, for_each_chan, lies, send_rule, recv_rule, keeps_form, keeps_at, keeps_all}
use Rattle.program.specs.FlowRule.{ForEach, Lies, FlowRule, KeepsAll}
use Rattle.program.specs.Maybe.{when}
use Rattle.program.specs.Program.{Program, bind_at}
use Rattle.program.specs.Test.{◌⇒◌}
use Rattle.program.proofs.Sound.Shape.{bind_bound}
use Rattle.program.proofs.Maybe.{when_intro, found_at, found_when}
use Rattle.program.proofs.Test.{and_left, and_right, and_intro, all_elim, all_intro, implies_elim, implies_intro}

module _ (p : Program) where
  pub each_iff : (s : Set) (f : ℕ → Bool) → So (for_each p s f) ↔ ForEach p s (λ r. So (f r))
  unfolding for_each
  each_iff s f = (λ t r l m. implies_elim (f r) (all_elim (length p) (λ r. s (row r) ⇒ f r) t r l) m, λ h. all_intro (length p) _ (λ r l. implies_intro (s (row r)) (h r l)))

  pub lies_iff : (s t : Set) → So (lies p s t) ↔ Lies p s t
  unfolding lies
  lies_iff s t = (
    λ h. (implies_elim (t u) (search and_left), (each_iff s (λ r. t (row r))).0 (search and_right)),
    λ (h, k). and_intro (implies_intro (s u) h) ((each_iff s (λ r. t (row r))).1 k),
  )

pub when_iff : {A : Type 0} (o : Option A) (f : A → Bool) → So (when o f) ↔ ((a : A) → o ≡ some a → So (f a))
when_iff o f = (λ t a e. found_at e (found_when f o t), when_intro f o)

module _ (p : Program) (flow comm : Table) (r n : ℕ) where
  pub rule_iff : (f : Form) → So (keeps_form p flow comm r n f) ↔ FlowRule p flow comm r n f
  unfolding keeps_form send_rule recv_rule for_each_chan
  rule_iff Form.Unit = Iff.rfl
  rule_iff Chan = Iff.rfl
  rule_iff (Send c m) = Iff.rfl
  rule_iff (Recv c) = Iff.rfl
  rule_iff (Pair a b) = Iff.rfl
  rule_iff (Left a) = Iff.rfl
  rule_iff (Right a) = Iff.rfl
  rule_iff (Fun f x t) = and-eq-true_iff _ _
  rule_iff (Spawn t) = Iff.rfl
  rule_iff (Sync e) = simp (each_iff p, when_iff, and-eq-true_iff, lies_iff p) Iff.rfl
  rule_iff (First a) = simp (each_iff p, when_iff, lies_iff p) Iff.rfl
  rule_iff (Second a) = simp (each_iff p, when_iff, lies_iff p) Iff.rfl
  rule_iff (Case s x t y w) = simp (each_iff p, when_iff, and-eq-true_iff, lies_iff p) Iff.rfl
  rule_iff (Apply f a) = simp (each_iff p, when_iff, and-eq-true_iff, lies_iff p) Iff.rfl

-- the test of every row, and the rule at every row
pub keeps_iff : (p : Program) (flow comm : Table) → So (keeps_all p flow comm) ↔ KeepsAll p flow comm
unfolding keeps_all keeps_at KeepsAll
keeps_iff p flow comm = (
  λ t r b e. (rule_iff p flow comm r b.name b.form).0 ((when_iff (bind_at p r) _).0 (all_elim (length p) (keeps_at p flow comm) t r (bind_bound p r b e)) b e),
  λ h. all_intro (length p) (keeps_at p flow comm) (λ r l. when_intro _ (bind_at p r) (λ b e. (rule_iff p flow comm r b.name b.form).1 (h r b e))),
)
