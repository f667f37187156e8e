-- `add_set` meets its contract: the copy of one set is joined to the other.
use Rattle.set_adds.proofs.Adding.{joined_adds}
use Rattle.set_adds.proofs.add_set.Goals as goal

pub returns : goal.returns
returns c =
    joined_adds _ _ _ _ _ _ _ c.requires.store_size_in_bounds.1 c.requires.from_bound.0 c.requires.from_bound.1
    (rw c.position.ensures at c.copy_set-set.ensures) (rw c.position-2.ensures at c.join_set.ensures)
