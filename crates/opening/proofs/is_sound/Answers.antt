use mathlib.Core.Path.{refl}
use Rattle.seen.proofs.Marking.{marks_none}
use Rattle.opening.proofs.is_sound.Goals as goal

-- `is_sound` meets its contract: the tests of the rows, then of the tree, then of the sets and claims.

pub tree_fault-requires : goal.tree_fault-requires
tree_fault-requires c =
    record { rows_le_row_limit = c.requires.rows_value.1; marks = marks_none _ refl }
