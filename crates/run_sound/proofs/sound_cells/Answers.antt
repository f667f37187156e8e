use native.Mathlib.Omega.{arith}
use mathlib.Core.Path.{sym, ◌∙◌}
use Rattle.run_memory.specs.RunMemory.{memory_in}
use Rattle.run_sound.proofs.Tests.{cell_failed, cell_passed, cells_none}
use Rattle.run_sound.proofs.sound_cells.Goals as goal

pub loop-k-init : goal.loop-k-init
unfolding memory_in
loop-k-init c = λ p h. rw c.in_use-k.ensures

pub returns-then-not-sound_cell : goal.returns-then-not-sound_cell
returns-then-not-sound_cell c =
    λ p h. sym (c.loop-k.invariant p h ∙ cell_failed _ p _ _ c.loop-k-test.true c.cell_at.ensures (c.sound_cell.ensures p h) c.if-not-sound_cell.true)

pub loop-k-preserved : goal.loop-k-preserved
loop-k-preserved c =
    λ p h. c.loop-k.invariant p h ∙ cell_passed _ p _ _ c.loop-k-test.true c.cell_at.ensures (c.sound_cell.ensures p h) c.if-not-sound_cell.false

pub returns : goal.returns
returns c = λ p h. sym (c.loop-k.invariant p h ∙ cells_none _ p _ (omega (arith, c.loop-k-test.false)))
