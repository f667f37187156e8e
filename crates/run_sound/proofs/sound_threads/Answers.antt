use mathlib.Core.Path.{sym, ◌∙◌}
use Rattle.run_sound.proofs.Tests.{counted, thread_failed, thread_passed, threads_none}
use Rattle.run_sound.proofs.sound_threads.Goals as goal

pub returns-then-not-sound_thread : goal.returns-then-not-sound_thread
returns-then-not-sound_thread c =
    λ p h. sym (c.loop-t.invariant p h ∙ thread_failed _ (record { row = 0; cell = 0; frame = 0 }) _ _ c.loop-t-test.true (c.sound_thread.ensures p _ h (counted _ _ c.in_use-n.ensures)) c.if-not-sound_thread.true)

pub loop-t-preserved : goal.loop-t-preserved
loop-t-preserved c =
    λ p h. c.loop-t.invariant p h ∙ thread_passed _ (record { row = 0; cell = 0; frame = 0 }) _ _ c.loop-t-test.true (c.sound_thread.ensures p _ h (counted _ _ c.in_use-n.ensures)) c.if-not-sound_thread.false

pub returns : goal.returns
returns c = λ p h. sym (c.loop-t.invariant p h ∙ threads_none _ (record { row = 0; cell = 0; frame = 0 }) _ _ c.loop-t-test.false)
