use Rattle.std.proofs.Common.{arith}
use Rattle.reach.proofs.Steps.{taken_none, taken_more, fills_settled, fills_closed}
use Rattle.reach.proofs.fill_reach.Goals as goal

pub loop-init : goal.loop-init
loop-init c = (taken_none c.requires.shows, c.result_rows-results.ensures)

pub loop-preserved : goal.loop-preserved
loop-preserved c = (taken_more c.loop.invariant.0 c.take_steps.ensures, c.loop.invariant.1)

pub returns-then-not-take_steps : goal.returns-then-not-take_steps
returns-then-not-take_steps c = fills_settled _ _ _ c.requires.rows_le_row_limit.0 (omega arith) (taken_more c.loop.invariant.0 c.take_steps.ensures) (c.take_steps.ensures.onward c.if-not-take_steps.true)

pub returns : goal.returns
returns c = fills_closed _ _ _ c.requires.rows_le_row_limit.0 (omega arith) c.loop.invariant.0 c.close.ensures
