-- `sends_pass` meets its contract: the set of the sends that pass holds a set exactly if each row in it passes.
use mathlib.Core.Path.{◌∙◌}
use Rattle.sets.proofs.Members.{marks-lies}
use Rattle.sync_rule.proofs.sends_pass.Goals as goal
use Rattle.sync_rule.proofs.sends_pass.Goals.{then-given, else-given}

pub returns : goal.returns
returns c = c.flow_lies.ensures ∙ elim c.if-given.branch [
  | then-given w ↦ rw (w.passing-is, w.if-given.true) (marks-lies _ _ _ _ _ c.requires.sends)
  | else-given w ↦ rw (w.passing-is, w.if-given.false) (marks-lies _ _ _ _ _ c.requires.sends_2)
]
