-- `row_in` meets its contract: a row past the last reads as a result.
use mathlib.Core.Path.{sym, ◌∙◌}
use Rattle.store.proofs.Laws.{row_at_program}
use Rattle.forms.proofs.Forms.{row_past}
use Rattle.forms.proofs.row_in.Goals as goal

pub returns-then-rows-r : goal.returns-then-rows-r
returns-then-rows-r c = sym (row_past _ _ _ c.if-rows-r.true)

pub returns : goal.returns
returns c = c.row_at.ensures ∙ sym (row_at_program _ _ _ c.if-rows-r.false)
