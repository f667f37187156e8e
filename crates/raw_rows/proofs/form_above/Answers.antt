-- A form's numbers are the first of the five.
use Rattle.kinds.proofs.Counts.{arity_small}
use Rattle.raw_rows.proofs.Limits.{numbers_are}
use Rattle.raw_rows.proofs.form_above.Goals as goal

pub returns : goal.returns
returns c = rw (numbers_are _ _ c.told-numbers, ← c.arity.ensures) c.numbers_above.ensures

pub shared_ref_as_front-numbers_above : goal.shared_ref_as_front-numbers_above
shared_ref_as_front-numbers_above c = rw c.arity.ensures (arity_small _)
