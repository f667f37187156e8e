-- `clear_sets` meets its contract: zeros stand in the place of the sets.
use Rattle.smallest.proofs.Settling.{cleared_fill}
use Rattle.smallest.proofs.clear_sets.Goals as goal

pub returns : goal.returns
returns c = cleared_fill c.args.store.now c.fill.new.self c.requires (c.fill.ensures.after (λ y e. e))
