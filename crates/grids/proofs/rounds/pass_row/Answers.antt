-- `pass_row` meets its contract: row i does not reach row k and stays, or the row is joined into it.
use Rattle.grids.proofs.Passes.{row_left, row_passed}
use Rattle.grids.proofs.rounds.pass_row.Goals as goal

pub returns-then-grid-at-eq0 : goal.returns-then-grid-at-eq0
returns-then-grid-at-eq0 c = row_left _ _ _ _ _ c.if-grid-at-eq0.true

pub returns : goal.returns
returns c = row_passed _ _ _ _ _ _ c.if-grid-at-eq0.false c.join_row.ensures.joined
