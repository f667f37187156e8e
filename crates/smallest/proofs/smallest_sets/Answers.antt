-- `smallest_sets` meets its contract: from empty sets, what is spread and the rounds after it leave the smallest tables.
use Rattle.smallest.proofs.Settling.{settles_grown, least_left}
use Rattle.smallest.proofs.smallest_sets.Goals as goal

pub returns : goal.returns
returns c =
    let few = c.requires.few in
    least_left _ _ _ _ few c.clear_sets.ensures
    (settles_grown _ few c.spread.ensures c.settle_rest.ensures)
