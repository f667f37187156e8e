use Rattle.write_bytes.proofs.Writing.{then_next}
use Rattle.write_bytes.proofs.put_word.Goals as goal

pub loop-b-preserved : goal.loop-b-preserved
loop-b-preserved c = then_next _ _ c.loop-b-test.true c.loop-b.invariant c.put_byte-next.ensures
