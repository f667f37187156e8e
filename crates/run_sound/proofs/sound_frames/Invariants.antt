-- All frames are sound exactly if those that are still to come are: those up to number `k`.
use mathlib.Core.Path.{◌≡◌}
use Rattle.program.specs.Each.{every}
use Rattle.program.specs.Program.{Program}
use Rattle.machine.specs.Machine.{sound_frame}
use Rattle.run_memory.specs.RunMemory.{memory_in, frames_in}
use Rattle.run_sound.specs.Known.{Known}
use Rattle.run_sound.proofs.sound_frames.Given as goal

abbrev pub invariant-loop-k : goal.invariant-loop-k
invariant-loop-k l =
    (p : Program) → Known l.rows l.marks p → every (sound_frame p (memory_in l.run)) (memory_in l.run).frames ≡ every (sound_frame p (memory_in l.run)) (frames_in l.run l.k)
