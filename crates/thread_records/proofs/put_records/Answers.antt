use Rattle.std.proofs.Common.{sym, ◌∙◌, arith, refl}
use Rattle.thread_records.proofs.Turns.{put_first, put_next, put_last}
use Rattle.thread_records.proofs.put_records.Goals as goal

pub loop-k-init : goal.loop-k-init
loop-k-init c = (omega (arith, c.in_use-k.ensures), put_first _ _ _ c.in_use-k.ensures)

pub loop-k-preserved : goal.loop-k-preserved
loop-k-preserved c = (omega (arith, c.loop-k.invariant.0), put_next _ _ _ _ c.loop-k-test.true refl ∙ c.loop-k.invariant.1)

pub returns : goal.returns
returns c = sym (put_last _ _ _ (λ z. omega (arith, z, c.loop-k-test.false))) ∙ c.loop-k.invariant.1
