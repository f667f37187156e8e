use native.Mathlib.Omega.{arith}
use mathlib.Core.Path.{refl, ◌∙◌}
use Rattle.tables.proofs.Tables.{bool_byte_lem}
use Rattle.place_marks.proofs.Placing.{of_none, of_more, of_all}
use Rattle.place_marks.proofs.places.Goals as goal

pub loop-r-init : goal.loop-r-init
loop-r-init c = λ side h. of_none _ _

pub loop-r-preserved : goal.loop-r-preserved
loop-r-preserved c = λ side h.
    of_more c.args.syncs.now _ _ refl (omega (arith, (c.requires.lists_2.rows c.loop-r.r-index c.loop-r-test.true).0, c.requires.rows_le_row_limit))
    (bool_byte_lem _ ∙ c.is_place.ensures side _ (rw c.rows.ensures h)) (c.loop-r.invariant side h)

pub returns : goal.returns
returns c = of_all _ _ _ _ (omega (arith, c.loop-r-test.false, c.loop-r.auto.r-index-end)) c.requires.lists_2 (c.loop-r.invariant _ c.events-on.ensures)
