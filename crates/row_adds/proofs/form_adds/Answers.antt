-- `form_adds` meets its contract: an arm for each form, but one for all value rows other than fun.
use mathlib.Core.Path.{◌∙◌}
use Rattle.inference.specs.Inference.{abstract_of}
use Rattle.asks.specs.Asks.{Names}
use Rattle.program.specs.Flow.{keeps_form}
use Rattle.rule_adds.specs.Rules.{ask_rule, AskLow}
use Rattle.set_adds.proofs.Adding.{adds_then}
use Rattle.rule_adds.proofs.Asking.{result_low}
use Rattle.row_adds.proofs.Rows.{branches_low, argument_low, row_put, sync_both}
use Rattle.row_adds.proofs.form_adds.Goals as goal

pub each_adds-sent-requires : goal.each_adds-sent-requires
unfolding AskLow
each_adds-sent-requires c =
    record { ready = c.requires.ready; names = c.requires.names; n_lt_row_limit = (c.requires.r_lt_row_limit.1, tt) }

pub each_adds-requires : goal.each_adds-requires
unfolding AskLow
each_adds-requires c =
    record { ready = c.requires.ready; names = c.requires.names; n_lt_row_limit = (c.requires.r_lt_row_limit.1, tt) }

pub each_adds-requires-in-Second : goal.each_adds-requires-in-Second
unfolding AskLow
each_adds-requires-in-Second c =
    record { ready = c.requires.ready; names = c.requires.names; n_lt_row_limit = (c.requires.r_lt_row_limit.1, tt) }

pub each_adds-requires-in-Case : goal.each_adds-requires-in-Case
unfolding AskLow
each_adds-requires-in-Case c = record {
  ready = c.requires.ready;
  names = c.requires.names;
  n_lt_row_limit = (
    c.requires.r_lt_row_limit.1,
    (
      (branches_low c.requires.r_lt_row_limit.2 c.in-Case.is).0,
      rw c.byte_at-left_result.ensures
          (result_low c.requires.ready _ c.requires.names _),
      (branches_low
          c.requires.r_lt_row_limit.2 c.in-Case.is).1,
      rw c.byte_at-right_result.ensures
          (result_low c.requires.ready _ c.requires.names _),
    ),
  );
}

pub each_adds-requires-in-Apply : goal.each_adds-requires-in-Apply
unfolding AskLow
each_adds-requires-in-Apply c = record { ready = c.requires.ready; names = c.requires.names; n_lt_row_limit = (c.requires.r_lt_row_limit.1, argument_low c.requires.r_lt_row_limit.2 c.in-Apply.is) }

pub returns-in-Unit : goal.returns-in-Unit
unfolding keeps_form abstract_of
returns-in-Unit c = rw c.in-Unit.is c.put_member.ensures

pub returns-in-Fun : goal.returns-in-Fun
unfolding keeps_form
returns-in-Fun c =
    rw c.in-Fun.is
    (adds_then (row_put _ _ c.put_member-value.ensures) (row_put _ _ c.put_member-inner.ensures))

pub returns-in-Spawn : goal.returns-in-Spawn
unfolding keeps_form abstract_of
returns-in-Spawn c = rw c.in-Spawn.is c.put_member-in-Spawn.ensures

pub returns-in-Sync : goal.returns-in-Sync
returns-in-Sync c =
    rw c.in-Sync.is (sync_both _ _ _ _ c.requires.ready.few c.each_adds-sent.ensures c.recvs_add-received.ensures)

pub returns-in-First : goal.returns-in-First
unfolding keeps_form ask_rule
returns-in-First c = rw c.in-First.is c.each_adds.ensures

pub returns-in-Second : goal.returns-in-Second
unfolding keeps_form ask_rule
returns-in-Second c = rw c.in-Second.is c.each_adds-in-Second.ensures

pub returns-in-Case : goal.returns-in-Case
unfolding keeps_form ask_rule Names
returns-in-Case c =
    rw c.in-Case.is
    (rw (c.byte_at-left_result.ensures ∙ c.requires.names _, c.byte_at-right_result.ensures ∙ c.requires.names _) at c.each_adds-in-Case.ensures)

pub returns-in-Apply : goal.returns-in-Apply
unfolding keeps_form ask_rule
returns-in-Apply c = rw c.in-Apply.is c.each_adds-in-Apply.ensures
