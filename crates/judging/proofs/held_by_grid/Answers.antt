-- `held_by_grid` meets its contract: the grid is filled from zeros.
use Rattle.grids.proofs.Keeping.{zeros_show}
use mathlib.Core.Path.{refl}
use borrow.Author.Rules.{rules}
use Rattle.judging.proofs.held_by_grid.Goals as goal

pub fill_reach-requires : goal.fill_reach-requires
fill_reach-requires c = record { rows_le_row_limit = (c.requires.rows_le_row_limit, search rules); shows = zeros_show _ refl }
