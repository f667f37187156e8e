-- `found` is not 0 exactly if one of the first i rows is in all three sets.
use mathlib.Core.Path.{◌≡◌}
use lib.Dec.{ltb}
use Rattle.row_marks.specs.RowMarks.{three_meet}
use Rattle.row_marks.proofs.three_meet.Given as goal

abbrev pub invariant-loop-i : goal.invariant-loop-i
invariant-loop-i l = ltb 0 l.found ≡ three_meet l.i l.a l.b l.c
