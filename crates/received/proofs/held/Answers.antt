use Rattle.std.proofs.Common.{rules}
use Rattle.received.proofs.Receiving.{gives_other}
use Rattle.received.proofs.held.Goals as goal

pub returns : goal.returns
returns c = c.gather.ensures _ (λ k e. gives_other _ _ k _ e) (λ k o l p. search rules)
