-- `asked_adds` meets its contract: what an ask asks of a row of the form that it looks for, and nothing of a row of another form.
use native.Mathlib.Omega.{arith}
use mathlib.Core.Path.{◌∙◌}
use Rattle.asks.specs.Asks.{Names}
use Rattle.program.specs.Maybe.{when}
use Rattle.forms.proofs.Forms.{pair_at_lem, left_at_lem, right_at_lem, fun_at_lem, lacks_pair, lacks_left, lacks_right, lacks_fun}
use Rattle.set_adds.specs.Adding.{set_at, number_of}
use Rattle.set_adds.proofs.Adding.{adds_none}
use Rattle.rule_adds.specs.Rules.{ask_rule, AskLow}
use Rattle.rule_adds.proofs.Asking.{pair_low, left_low, right_low, fun_low, result_low, first_pair, second_pair, case_left, case_right, apply_fun}
use Rattle.rule_adds.proofs.asked_adds.Goals as goal

pub add_set-requires-clause-from_bound : goal.add_set-requires-clause-from_bound
unfolding number_of
add_set-requires-clause-from_bound c =
    let (first, second) = pair_low c.requires.ready _ c.form_at.ensures c.in-First-Pair.is-1 in (omega (arith, first, second), c.requires.n_lt_row_limit.0)

pub add_set-requires-in-Second-Pair-clause-from_bound : goal.add_set-requires-in-Second-Pair-clause-from_bound
unfolding number_of
add_set-requires-in-Second-Pair-clause-from_bound c =
    let (first, second) = pair_low c.requires.ready _ c.form_at.ensures c.in-Second-Pair.is-1 in (omega (arith, first, second), c.requires.n_lt_row_limit.0)

pub both_add-requires : goal.both_add-requires
unfolding AskLow
both_add-requires c =
    let low = rw c.in-Case-Left.is-0 at c.requires.n_lt_row_limit.1 in
    (c.requires.ready.size, c.requires.ready.few, left_low c.requires.ready _ c.form_at.ensures c.in-Case-Left.is-1, low.0, low.1, c.requires.n_lt_row_limit.0)

pub both_add-requires-in-Case-Right : goal.both_add-requires-in-Case-Right
unfolding AskLow
both_add-requires-in-Case-Right c =
    let low = rw c.in-Case-Right.is-0 at c.requires.n_lt_row_limit.1 in
    (c.requires.ready.size, c.requires.ready.few, right_low c.requires.ready _ c.form_at.ensures c.in-Case-Right.is-1, low.2, low.3, c.requires.n_lt_row_limit.0)

pub both_add-requires-in-Apply-Fun : goal.both_add-requires-in-Apply-Fun
unfolding AskLow
both_add-requires-in-Apply-Fun c =
    let low = rw c.in-Apply-Fun.is-0 at c.requires.n_lt_row_limit.1 in (
      c.requires.ready.size,
      c.requires.ready.few,
      low,
      fun_low c.requires.ready _ c.form_at.ensures c.in-Apply-Fun.is-1,
      rw c.byte_at-result.ensures (result_low c.requires.ready _ c.requires.names _),
      c.requires.n_lt_row_limit.0,
    )

pub returns-in-First-Pair : goal.returns-in-First-Pair
unfolding set_at
returns-in-First-Pair c = rw c.in-First-Pair.is-0 (first_pair _ _ _ c.form_at.ensures c.in-First-Pair.is-1 c.add_set.ensures)

pub returns-in-Second-Pair : goal.returns-in-Second-Pair
unfolding set_at
returns-in-Second-Pair c = rw c.in-Second-Pair.is-0 (second_pair _ _ _ c.form_at.ensures c.in-Second-Pair.is-1 c.add_set-in-Second-Pair.ensures)

pub returns-in-Case-Left : goal.returns-in-Case-Left
returns-in-Case-Left c = rw c.in-Case-Left.is-0 (case_left _ _ _ c.form_at.ensures _ _ _ _ c.in-Case-Left.is-1 c.both_add.ensures)

pub returns-in-Case-Right : goal.returns-in-Case-Right
returns-in-Case-Right c = rw c.in-Case-Right.is-0 (case_right _ _ _ c.form_at.ensures _ _ _ _ c.in-Case-Right.is-1 c.both_add-in-Case-Right.ensures)

pub returns-in-Apply-Fun : goal.returns-in-Apply-Fun
unfolding Names
returns-in-Apply-Fun c =
    rw c.in-Apply-Fun.is-0
    (apply_fun _ _ _ c.form_at.ensures _ c.in-Apply-Fun.is-1 (rw (c.byte_at-result.ensures ∙ c.requires.names _) at c.both_add-in-Apply-Fun.ensures))

pub returns-in_default : goal.returns-in_default
unfolding ask_rule when
returns-in_default c = adds_none _ _ (λ flow comm. rw (c.in_default.is-0, pair_at_lem _ _ c.form_at.ensures, lacks_pair _ c.in_default.not-Pair-1))

pub returns-in_default-2 : goal.returns-in_default-2
unfolding ask_rule when
returns-in_default-2 c = adds_none _ _ (λ flow comm. rw (c.in_default.is-0, pair_at_lem _ _ c.form_at.ensures, lacks_pair _ c.in_default.not-Pair-1))

pub returns-in_default-3 : goal.returns-in_default-3
unfolding ask_rule when
returns-in_default-3 c =
    adds_none _ _ (λ flow comm. rw (c.in_default.is-0, left_at_lem _ _ c.form_at.ensures, right_at_lem _ _ c.form_at.ensures, lacks_left _ c.in_default.not-Left-1, lacks_right _ c.in_default.not-Right-1))

pub returns-in_default-4 : goal.returns-in_default-4
unfolding ask_rule when
returns-in_default-4 c = adds_none _ _ (λ flow comm. rw (c.in_default.is-0, fun_at_lem _ _ c.form_at.ensures, lacks_fun _ c.in_default.not-Fun-1))
