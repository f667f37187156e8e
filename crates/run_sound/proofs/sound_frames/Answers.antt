use native.Mathlib.Omega.{arith}
use mathlib.Core.Path.{sym, ◌∙◌}
use Rattle.run_memory.specs.RunMemory.{memory_in}
use Rattle.run_sound.proofs.Tests.{counted, frame_failed, frame_passed, frames_none}
use Rattle.run_sound.proofs.sound_frames.Goals as goal

pub loop-k-init : goal.loop-k-init
unfolding memory_in
loop-k-init c = λ p h. rw c.in_use-n.ensures

pub returns-then-not-sound_frame : goal.returns-then-not-sound_frame
returns-then-not-sound_frame c =
    λ p h. sym (c.loop-k.invariant p h ∙ frame_failed _ _ _ _ (omega (arith, c.loop-k-test.true)) c.frame_at.ensures (c.sound_frame.ensures p _ h (counted _ _ c.in_use-n.ensures)) c.if-not-sound_frame.true)

pub loop-k-preserved : goal.loop-k-preserved
loop-k-preserved c =
    λ p h. c.loop-k.invariant p h ∙ frame_passed _ _ _ _ (omega (arith, c.loop-k-test.true)) c.frame_at.ensures (c.sound_frame.ensures p _ h (counted _ _ c.in_use-n.ensures)) c.if-not-sound_frame.false

pub returns : goal.returns
returns c = λ p h. sym (c.loop-k.invariant p h ∙ frames_none _ _ _ (omega (arith, c.loop-k-test.false)))
