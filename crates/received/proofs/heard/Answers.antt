use Rattle.std.proofs.Common.{rules, sym, ap, ◌∙◌}
use Rattle.program.specs.Flow.{row, Set}
use Rattle.received.proofs.Receiving.{hears_other}
use Rattle.received.proofs.heard.Goals as goal

pub returns : goal.returns
returns c = c.gather.ensures _ (λ k e. hears_other _ _ k _ (sym (ap (λ (t : Set). t (row k)) c.flow_set.ensures) ∙ e)) (λ k o l p. search rules)
