-- A place of the table is below 14, and the table's entry is the definition's (`count_is`).
use native.Mathlib.Omega.{arith}
use Rattle.kinds.proofs.Counts.{place_below, count_is}
use Rattle.kinds.proofs.arity.Goals as goal

pub offset_bounds-counts-form_place : goal.offset_bounds-counts-form_place
offset_bounds-counts-form_place c = omega (arith, c.form_place.ensures, place_below c.args.kind)

pub bounds-counts-form_place : goal.bounds-counts-form_place
bounds-counts-form_place c = omega (arith, c.form_place.ensures, place_below c.args.kind)

pub returns : goal.returns
returns c = rw c.form_place.ensures (count_is c.args.kind)
