-- The first bytes, as many as a store has, are filled with 0; the rest stays.
use Rattle.std.proofs.Common.{length-take-le}
use Rattle.calls.specs.Layout.{store_size}
use Rattle.store.proofs.clear.Goals as goal

pub returns : goal.returns
returns c = rw (c.fill.ensures.after (λ y e. e), length-take-le store_size c.args.store.now c.requires)
