-- `row_at` meets its contract: a row of the store is the row of its bytes.
use mathlib.Core.Path.{sym, ◌∙◌}
use Rattle.store.proofs.Laws.{row_cells}
use Rattle.stored_rows.proofs.row_at.Goals as goal

pub returns : goal.returns
returns c = c.row_of.ensures ∙ rw c.cells_at.ensures (sym (row_cells _ _))
