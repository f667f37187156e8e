-- The loop's invariant: what is asked of the chan rows below k is added.
use Rattle.program.specs.Test.{all}
use Rattle.store.specs.Rows.{store_program}
use Rattle.set_adds.specs.Adding.{Adds}
use Rattle.send_adds.specs.Sends.{chan_rule}
use Rattle.send_adds.proofs.chans_add.Given as goal

abbrev pub invariant-loop-k : goal.invariant-loop-k
invariant-loop-k l =
    Adds (λ flow comm. all l.k (λ i. chan_rule (store_program l.rows l.initial.store) l.n l.message l.c i flow comm)) l.initial.store l.store l.more
