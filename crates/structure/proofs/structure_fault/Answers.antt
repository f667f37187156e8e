-- `structure_fault` meets its contract: 6 to 8 by the rows, then 9, where the tests of the bytes tell that no line is wrong, or a line that is not 0 is a refusal.
use mathlib.Core.Path.{refl}
use Rattle.seen.proofs.Marking.{marks_none}
use Rattle.structure.proofs.structure_fault.Goals as goal

pub tree_fault-requires : goal.tree_fault-requires
tree_fault-requires c = record { rows_le_row_limit = c.requires.rows_le_row_limit; marks = marks_none _ refl }
