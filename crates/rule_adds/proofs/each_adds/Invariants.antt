-- The loop's invariant: what is asked of the rows below k is added.
use Rattle.program.specs.Test.{all}
use Rattle.store.specs.Rows.{store_program}
use Rattle.set_adds.specs.Adding.{Adds}
use Rattle.rule_adds.specs.Rules.{member_rule}
use Rattle.rule_adds.proofs.each_adds.Given as goal

abbrev pub invariant-loop-k : goal.invariant-loop-k
invariant-loop-k l =
    Adds (λ flow comm. all l.k (λ i. member_rule (store_program l.rows l.initial.store) l.n l.ask l.a i flow comm)) l.initial.store l.store l.more
