-- The loop's invariant: what the rules of the rows below r ask is added.
use Rattle.program.specs.Test.{all}
use Rattle.program.specs.Flow.{keeps_at}
use Rattle.store.specs.Rows.{store_program}
use Rattle.set_adds.specs.Adding.{Adds}
use Rattle.smallest.proofs.round.Given as goal

abbrev pub invariant-loop-r : goal.invariant-loop-r
invariant-loop-r l =
    Adds (λ flow comm. all l.r (λ i. keeps_at (store_program l.rows l.initial.store) flow comm i)) l.initial.store l.store l.more
