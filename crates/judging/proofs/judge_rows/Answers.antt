-- `judge_rows` meets its contract: 10, then the claims.
use Rattle.judging.proofs.Documents.{judge_refused, judge_goes}
use Rattle.judging.proofs.judge_rows.Goals as goal

pub returns-in-Some : goal.returns-in-Some
returns-in-Some c = rw c.flow_refusal.ensures (judge_refused _ _ c.requires.rows_value c.requires.store_len c.failing_row.ensures c.in-Some.is)

pub returns : goal.returns
returns c = judge_goes _ _ c.requires.rows_value c.requires.store_len c.failing_row.ensures c.in_default.is c.claims_held-held.ensures.0 c.claims_answer.ensures
