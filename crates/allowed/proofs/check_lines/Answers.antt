-- The flags tell what may be named, and the first part with a failing line has the first such line. Where a part passes, the next begins
-- at the line after it.
use native.Mathlib.Omega.{arith}
use Rattle.std.proofs.lemmas.Result.{err_from_is_err_and}
use Rattle.allowed.proofs.FirstLine.{flow_fails, comm_fails, comm_line_lem, claim_line_lem, claims_decide}
use Rattle.allowed.proofs.check_lines.Goals as goal

pub returns-in_err-comms : goal.returns-in_err-comms
returns-in_err-comms c =
    let p = err_from_is_err_and c.from_residual.result c.from_residual.ensures.1 in
    rw (p.1, p.2) (flow_fails c.args.rows c.args.store.now c.requires.marks.tells c.chan_rows-chans.ensures c.allowed_members-members.ensures c.in_err-comms.ensures)

pub returns-in_err-claims : goal.returns-in_err-claims
returns-in_err-claims c =
    let p = err_from_is_err_and c.from_residual-in_err-claims.result c.from_residual-in_err-claims.ensures.1 in
    rw (p.1, p.2) (comm_fails c.args.rows c.args.store.now c.requires.marks.tells c.chan_rows-chans.ensures c.allowed_members-members.ensures c.in_ok-comms.ensures c.in_err-claims.ensures)

pub check_sets-requires-2-clause-line_le_line_limit : goal.check_sets-requires-2-clause-line_le_line_limit
check_sets-requires-2-clause-line_le_line_limit c =
    omega (arith, comm_line_lem c.args.rows c.args.store.now c.requires.marks.tells c.chan_rows-chans.ensures c.allowed_members-members.ensures c.in_ok-comms.ensures)

pub check_claims-requires : goal.check_claims-requires
check_claims-requires c =
    omega (
      arith,
      comm_line_lem c.args.rows c.args.store.now c.requires.marks.tells c.chan_rows-chans.ensures c.allowed_members-members.ensures c.in_ok-comms.ensures,
      claim_line_lem c.args.rows c.args.store.now c.requires.marks.tells c.chan_rows-chans.ensures c.allowed_members-members.ensures c.in_ok-comms.ensures c.in_ok-claims.ensures,
    )

pub returns : goal.returns
returns c =
    claims_decide c.args.rows c.args.store.now c.requires.marks.tells c.chan_rows-chans.ensures c.allowed_members-members.ensures c.in_ok-comms.ensures c.in_ok-claims.ensures c.check_claims.ensures
