-- The rows are tested from the last down, and those that are left decide.
use Rattle.row_bytes.proofs.FirstRows.{SoundTo}
use Rattle.row_bytes.proofs.rows_sound.Given as goal

abbrev pub invariant-loop-r : goal.invariant-loop-r
invariant-loop-r l = SoundTo l.store l.rows l.r
