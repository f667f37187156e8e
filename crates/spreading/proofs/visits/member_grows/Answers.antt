-- `member_grows` meets its contract: a row whose form asks nothing of the rows in a set adds nothing.
use mathlib.Core.Path.{◌∙◌}
use Rattle.asks.specs.Asks.{Names}
use Rattle.program.specs.Flow.{keeps_form}
use Rattle.rule_adds.specs.Rules.{ask_rule, AskLow}
use Rattle.rule_adds.proofs.Asking.{result_low}
use Rattle.row_adds.proofs.Rows.{bind_low, branches_low, argument_low}
use Rattle.spreading.proofs.Asked.{grows_member, sync_sends}
use Rattle.spreading.proofs.visits.member_grows.Goals as goal

pub member_adds-requires : goal.member_adds-requires
unfolding AskLow
member_adds-requires c =
    record { ready = c.requires.ready; names = c.requires.names; n_lt_row_limit = ((bind_low c.requires.ready _ c.row_in.ensures c.in-Bind.is).0, tt) }

pub member_adds-requires-in-First : goal.member_adds-requires-in-First
unfolding AskLow
member_adds-requires-in-First c =
    record { ready = c.requires.ready; names = c.requires.names; n_lt_row_limit = ((bind_low c.requires.ready _ c.row_in.ensures c.in-Bind.is).0, tt) }

pub member_adds-requires-in-Second : goal.member_adds-requires-in-Second
unfolding AskLow
member_adds-requires-in-Second c =
    record { ready = c.requires.ready; names = c.requires.names; n_lt_row_limit = ((bind_low c.requires.ready _ c.row_in.ensures c.in-Bind.is).0, tt) }

pub member_adds-requires-in-Case : goal.member_adds-requires-in-Case
unfolding AskLow
member_adds-requires-in-Case c =
    record {
      ready = c.requires.ready;
      names = c.requires.names;
      n_lt_row_limit = (
        (bind_low c.requires.ready _ c.row_in.ensures c.in-Bind.is).0,
        (
          (branches_low (bind_low c.requires.ready _ c.row_in.ensures c.in-Bind.is).1 c.in-Case.is).0,
          rw
              c.byte_at-left_result.ensures (result_low c.requires.ready _ c.requires.names _),
          (branches_low
              (bind_low c.requires.ready _ c.row_in.ensures c.in-Bind.is).1 c.in-Case.is).1,
          rw
              c.byte_at-right_result.ensures (result_low c.requires.ready _ c.requires.names _),
        ),
      );
    }

pub member_adds-requires-in-Apply : goal.member_adds-requires-in-Apply
unfolding AskLow
member_adds-requires-in-Apply c =
    record {
      ready = c.requires.ready;
      names = c.requires.names;
      n_lt_row_limit = (
        (bind_low c.requires.ready _ c.row_in.ensures c.in-Bind.is).0,
        argument_low
            (bind_low c.requires.ready _ c.row_in.ensures c.in-Bind.is).1 c.in-Apply.is,
      );
    }

pub returns-in-Sync : goal.returns-in-Sync
returns-in-Sync c =
    grows_member _ _ _ c.requires.r_lt_rows.0 c.requires.r_lt_rows.1 c.row_in.ensures
    c.in-Bind.is _ _ (λ flow comm t. sync_sends _ flow comm _ _ _ (rw c.in-Sync.is at t)) c.member_adds.ensures

pub returns-in-First : goal.returns-in-First
unfolding keeps_form ask_rule
returns-in-First c =
    grows_member _ _ _ c.requires.r_lt_rows.0 c.requires.r_lt_rows.1 c.row_in.ensures
    c.in-Bind.is _ _ (λ flow comm t. rw c.in-First.is at t) c.member_adds-in-First.ensures

pub returns-in-Second : goal.returns-in-Second
unfolding keeps_form ask_rule
returns-in-Second c =
    grows_member _ _ _ c.requires.r_lt_rows.0 c.requires.r_lt_rows.1 c.row_in.ensures
    c.in-Bind.is _ _ (λ flow comm t. rw c.in-Second.is at t) c.member_adds-in-Second.ensures

pub returns-in-Case : goal.returns-in-Case
unfolding keeps_form ask_rule Names
returns-in-Case c =
    grows_member _ _ _ c.requires.r_lt_rows.0 c.requires.r_lt_rows.1
    c.row_in.ensures c.in-Bind.is _ _
    (λ flow comm t. rw (
      c.byte_at-left_result.ensures ∙ c.requires.names _,
      c.byte_at-right_result.ensures ∙
          c.requires.names _,
    )
    (rw c.in-Case.is at t))
    c.member_adds-in-Case.ensures

pub returns-in-Apply : goal.returns-in-Apply
unfolding keeps_form ask_rule
returns-in-Apply c =
    grows_member _ _ _ c.requires.r_lt_rows.0 c.requires.r_lt_rows.1 c.row_in.ensures
    c.in-Bind.is _ _ (λ flow comm t. rw c.in-Apply.is at t) c.member_adds-in-Apply.ensures
