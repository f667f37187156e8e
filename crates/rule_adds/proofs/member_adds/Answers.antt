-- `member_adds` meets its contract: nothing is asked of a row that is not in the set.
use mathlib.Core.Path.{sym, ◌∙◌}
use Rattle.rule_adds.specs.Rules.{member_rule}
use Rattle.set_adds.proofs.Adding.{adds_member, adds_other}
use Rattle.rule_adds.proofs.member_adds.Goals as goal

pub returns-then-flow_has : goal.returns-then-flow_has
unfolding member_rule
returns-then-flow_has c = adds_member _ _ (sym c.flow_has.ensures ∙ c.if-flow_has.true) c.asked_adds.ensures

pub returns-else-flow_has : goal.returns-else-flow_has
unfolding member_rule
returns-else-flow_has c = rw c.if-flow_has.false (adds_other _ _ _ _ (sym c.flow_has.ensures ∙ c.if-flow_has.false))
