-- `judge_store` meets its contract: 10, then the claims over the grid.
use Rattle.judging.proofs.Documents.{judge_refused, judge_goes, not_accepted}
use Rattle.judging.proofs.judge_store.Goals as goal

pub returns-in-Some : goal.returns-in-Some
returns-in-Some c = rw c.flow_refusal.ensures
    (record {
      answer_is = judge_refused _ _ c.requires.rows_value c.requires.store_len c.failing_row.ensures c.in-Some.is;
      grid_shows = λ k e. not_accepted e;
    })

pub returns : goal.returns
returns c = record {
  answer_is = judge_goes _ _ c.requires.rows_value c.requires.store_len c.failing_row.ensures c.in_default.is c.judge_claims-held.ensures.0 c.claims_answer.ensures;
  grid_shows = λ k e. c.fill_reach.ensures.shows;
}
