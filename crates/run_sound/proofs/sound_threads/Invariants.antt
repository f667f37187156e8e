-- All threads are sound exactly if those that are still to come are.
use mathlib.Core.Path.{◌≡◌}
use lib.ListN.{length, drop}
use Rattle.program.specs.Each.{every}
use Rattle.program.specs.Program.{Program}
use Rattle.machine.specs.Machine.{sound_thread}
use Rattle.run_memory.specs.RunMemory.{memory_in}
use Rattle.run_sound.proofs.sound_threads.Given as goal

abbrev pub invariant-loop-t : goal.invariant-loop-t
invariant-loop-t l =
    (p : Program) → length p ≡ l.rows → every (sound_thread p (memory_in l.run)) l.threads ≡ every (sound_thread p (memory_in l.run)) (drop l.t-index l.threads)
