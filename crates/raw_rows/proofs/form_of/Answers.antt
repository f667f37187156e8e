-- The low byte of each number that the form holds is the number itself.
use Rattle.raw_rows.proofs.Limits.{low_form}
use Rattle.raw_rows.proofs.form_of.Goals as goal

pub returns : goal.returns
returns c = rw (c.form_of.ensures, c.low.ensures, c.low-2.ensures, c.low-3.ensures, c.low-4.ensures, c.low-5.ensures) (low_form _ _ c.told-numbers c.requires)
