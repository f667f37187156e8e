use Rattle.std.proofs.Common.{sym, ◌∙◌}
use Rattle.raw_rows.proofs.Limits.{from_above, from_next, from_end}
use Rattle.raw_rows.proofs.numbers_above.Goals as goal

pub returns-then-is_above : goal.returns-then-is_above
returns-then-is_above c = from_above _ _ c.loop-n-test.true (sym c.is_above.ensures ∙ c.if-is_above.true) ∙ c.loop-n.invariant

pub loop-n-preserved : goal.loop-n-preserved
loop-n-preserved c = from_next _ _ c.loop-n-test.true (sym c.is_above.ensures ∙ c.if-is_above.false) ∙ c.loop-n.invariant

pub returns : goal.returns
returns c = from_end _ _ c.loop-n-test.false ∙ c.loop-n.invariant
