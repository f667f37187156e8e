-- The loop's invariant: the flags tell which of the first r rows are chan rows.
use mathlib.Core.Path.{◌≡◌}
use lib.ListN.{length}
use Rattle.program.specs.Program.{chan_row}
use Rattle.format.specs.Limits.{row_limit}
use Rattle.store.specs.Rows.{store_program}
use Rattle.seen.specs.Flags.{Tells}
use Rattle.allowed_lines.proofs.chan_rows.Given as goal

abbrev pub invariant-loop-r : goal.invariant-loop-r
invariant-loop-r l =
    (length l.chans ≡ row_limit) × Tells (chan_row (store_program l.r l.store)) l.chans
