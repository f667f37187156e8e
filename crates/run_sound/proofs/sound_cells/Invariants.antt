-- All cells are sound exactly if those that are still to come are: those up to number `k`.
use mathlib.Core.Path.{◌≡◌}
use Rattle.program.specs.Program.{Program}
use Rattle.machine.specs.Machine.{sound_cells}
use Rattle.run_memory.specs.RunMemory.{memory_in, cells_in}
use Rattle.run_sound.specs.Known.{Known}
use Rattle.run_sound.proofs.sound_cells.Given as goal

abbrev pub invariant-loop-k : goal.invariant-loop-k
invariant-loop-k l =
    (p : Program) → Known l.rows l.marks p → sound_cells p (memory_in l.run).cells ≡ sound_cells p (cells_in l.run l.k)
