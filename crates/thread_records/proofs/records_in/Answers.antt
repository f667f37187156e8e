use Rattle.std.proofs.Common.{sym, ◌∙◌, arith, refl}
use Rattle.thread_records.proofs.Turns.{filled_first, filled_next, filled_last}
use Rattle.thread_records.proofs.records_in.Goals as goal

pub loop-k-init : goal.loop-k-init
loop-k-init c = (omega (arith, c.in_use-k.ensures), filled_first _ _ _ c.in_use-k.ensures c.no_records-records.ensures)

pub loop-k-preserved : goal.loop-k-preserved
loop-k-preserved c = (omega (arith, c.loop-k.invariant.0), filled_next _ _ _ _ c.loop-k-test.true refl ∙ c.loop-k.invariant.1)

pub returns : goal.returns
returns c = sym (filled_last _ _ _ (λ z. omega (arith, z, c.loop-k-test.false))) ∙ c.loop-k.invariant.1
