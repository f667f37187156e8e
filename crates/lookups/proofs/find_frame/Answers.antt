-- `find_frame` meets its contract: frames are numbered from 1 to as many as are in use.
use native.Mathlib.Omega.{arith}
use Rattle.std.specs.Prelude.{Some as some}
use mathlib.Core.Path.{ap, sym, ◌∙◌}
use Rattle.run_memory.specs.declared.InUse.{InUse}
use Rattle.run_memory.specs.RunMemory.{memory_in}
use Rattle.lookups.proofs.Cells.{frame_zero, frame_above, frame_there}
use Rattle.lookups.proofs.find_frame.Goals as goal

pub returns-then-k-eq0 : goal.returns-then-k-eq0
unfolding memory_in
returns-then-k-eq0 c = rw c.if-k-eq0.true (sym (frame_zero _ _))

pub returns-then-in_use-k : goal.returns-then-in_use-k
unfolding memory_in
returns-then-in_use-k c = let e = ap (λ (n : InUse). n.frames) c.in_use.ensures in sym (frame_above _ _ _ (omega (arith, e, c.if-in_use-k.true)))

pub returns : goal.returns
unfolding memory_in
returns c = let e = ap (λ (n : InUse). n.frames) c.in_use.ensures in ap some c.frame_at.ensures ∙ sym (frame_there _ _ _ (omega (arith, c.if-k-eq0.false)) (omega (arith, e, c.if-in_use-k.false)))
