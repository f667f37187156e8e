-- No number is above the limit, so the low byte of each is the number itself.
use Rattle.raw_rows.specs.Raw.{raw_row}
use Rattle.raw_rows.proofs.Limits.{low_result, bind_below}
use Rattle.raw_rows.proofs.row_of.Goals as goal

pub form_of-requires : goal.form_of-requires
unfolding raw_row
form_of-requires c = (bind_below _ _ _ (rw c.in-Bind.is at c.requires)).form_below

pub returns-in-Result : goal.returns-in-Result
unfolding raw_row
returns-in-Result c = rw (c.in-Result.is, c.low.ensures) (low_result _ (rw c.in-Result.is at c.requires))

pub returns-in-Bind : goal.returns-in-Bind
unfolding raw_row
returns-in-Bind c =
    let below = bind_below _ _ _ (rw c.in-Bind.is at c.requires) in
    rw (c.in-Bind.is, c.low-in-Bind.ensures, c.low-in-Bind-2.ensures, c.form_of.ensures, below.name_below, below.rest_below)
