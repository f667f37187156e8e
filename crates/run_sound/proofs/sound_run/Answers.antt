-- The counts, then the cells, the frames and the threads, in the order of the definition. The marks tell the names that the program binds.
use mathlib.Core.Path.{sym, ◌∙◌, ap}
use Rattle.program.specs.Each.{every}
use mathlib.Core.Bool.{false≢true}
use Rattle.run_memory.specs.RunMemory.{sound_run}
use Rattle.store.proofs.Laws.{program_length}
use Rattle.run_sound.proofs.Tests.{known, in_limits, within, used_only}
use Rattle.run_sound.proofs.sound_run.Goals.{then-sound_cells, else-sound_cells}
use Rattle.run_sound.proofs.sound_run.Goals as goal

pub returns-then-not-within_limits : goal.returns-then-not-within_limits
unfolding sound_run
returns-then-not-within_limits c = rw (← c.in_use-n.ensures, ← c.within_limits.ensures, c.if-not-within_limits.true)

pub sound_frames-requires : goal.sound_frames-requires
sound_frames-requires c = in_limits _ _ c.in_use-n.ensures (sym c.within_limits.ensures ∙ c.if-not-within_limits.false)

pub returns-then-sound_frames : goal.returns-then-sound_frames
returns-then-sound_frames c = elim c.if-sound_cells.branch [
  | then-sound_cells w ↦ sym (within _ _ c.in_use-n.ensures (sym c.within_limits.ensures ∙ c.if-not-within_limits.false) _ _ ∙ rw (← c.sound_cells.ensures _ (known _ _ _ c.bound-marks.ensures), w.if-sound_cells.true, ← w.sound_frames.ensures _ (known _ _ _ c.bound-marks.ensures), ← w.value-is, c.if-sound_frames.true) (rw (← c.in_use-n.ensures) (sym (c.sound_threads.ensures _ (program_length _ _) ∙ ap (every _) (used_only _ _ _ c.min-used.ensures)))))
  | else-sound_cells w ↦ absurd (false≢true (sym w.if-sound_cells.false ∙ sym w.value-is ∙ c.if-sound_frames.true))
]

pub returns-else-sound_frames : goal.returns-else-sound_frames
returns-else-sound_frames c = elim c.if-sound_cells.branch [
  | then-sound_cells w ↦ sym (within _ _ c.in_use-n.ensures (sym c.within_limits.ensures ∙ c.if-not-within_limits.false) _ _ ∙ rw (← c.sound_cells.ensures _ (known _ _ _ c.bound-marks.ensures), w.if-sound_cells.true, ← w.sound_frames.ensures _ (known _ _ _ c.bound-marks.ensures), ← w.value-is, c.if-sound_frames.false))
  | else-sound_cells w ↦ sym (within _ _ c.in_use-n.ensures (sym c.within_limits.ensures ∙ c.if-not-within_limits.false) _ _ ∙ rw (← c.sound_cells.ensures _ (known _ _ _ c.bound-marks.ensures), w.if-sound_cells.false, c.if-sound_frames.false))
]
