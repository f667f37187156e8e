-- As many frames stand in memory as are counted.
use Rattle.std.proofs.Common.{suc, ap, sym, ◌∙◌}
use Rattle.std.proofs.Math.Numerals.{towards_suc}
use Rattle.run_memory.specs.declared.InUse.{InUse}
use Rattle.run_memory.proofs.Codec.{frames_are}
use Rattle.run_memory.proofs.next_frame.Goals as goal

pub returns : goal.returns
returns c = simp towards_suc (ap suc (ap (λ (n : InUse). n.frames) c.in_use.ensures ∙ sym (frames_are _)))
