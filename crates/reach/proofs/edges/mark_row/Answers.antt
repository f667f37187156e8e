-- `mark_row` meets its contract: for each kind of row the steps that are taken are those that it gives.
use mathlib.Core.Path.{refl, sym, ◌∙◌}
use Rattle.reach.specs.Edges.{kind_steps}
use Rattle.store.proofs.Laws.{program_length}
use Rattle.grids.proofs.Stepping.{follows_none, follows_then}
use Rattle.reach.proofs.Giving.{as_kind, as_branch, as_call}
use Rattle.reach.proofs.edges.mark_row.Goals as goal

pub returns-in-End : goal.returns-in-End
unfolding kind_steps
returns-in-End c = as_kind _ _ _ (sym c.kind_at.ensures ∙ c.in-End.is) (follows_none _ (λ r s lr ls. refl))

pub returns-in-Next : goal.returns-in-Next
unfolding kind_steps
returns-in-Next c = as_kind _ _ _ (sym c.kind_at.ensures ∙ c.in-Next.is) c.mark.ensures

pub returns-in-Body : goal.returns-in-Body
unfolding kind_steps
returns-in-Body c = as_kind _ _ _ (sym c.kind_at.ensures ∙ c.in-Body.is) c.mark-in-Body.ensures

pub returns-in-Fork : goal.returns-in-Fork
unfolding kind_steps
returns-in-Fork c = as_kind _ _ _ (sym c.kind_at.ensures ∙ c.in-Fork.is) (follows_then _ _ refl c.mark-on.ensures c.mark-off.ensures)

pub returns-in-Branch : goal.returns-in-Branch
returns-in-Branch c = as_branch _ _ _ _ _ (sym c.kind_at.ensures ∙ c.in-Branch.is) (c.result_of-left_result.ensures _ (program_length _ _) c.requires.result_rows) (c.result_of-right_result.ensures _ (program_length _ _) c.requires.result_rows) refl
    c.mark_entering-into.ensures c.mark_returning-back.ensures

pub returns-in-Call : goal.returns-in-Call
returns-in-Call c = as_call _ _ _ _ (sym c.kind_at.ensures ∙ c.in-Call.is) c.mark_bodies.ensures
