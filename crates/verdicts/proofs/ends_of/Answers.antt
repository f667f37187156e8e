-- Where there are no places nothing is found, else what the bytes find is what the definitions say.
use Rattle.verdicts.proofs.Ends.{ends_are, ends_nowhere, none_there}
use Rattle.verdicts.proofs.ends_of.Goals as goal

pub returns-then-none_marked : goal.returns-then-none_marked
returns-then-none_marked c = rw (none_there _ _ c.requires.rows_le_row_limit.0 (c.none_marked.ensures c.if-none_marked.true)) (ends_nowhere _ _ _)

pub returns : goal.returns
returns c = ends_are _ _ c.requires.rows_le_row_limit.0 _ _ _ c.requires.shows c.rows_ahead-ahead.ensures c.three_meet.ensures c.rivals.ensures
