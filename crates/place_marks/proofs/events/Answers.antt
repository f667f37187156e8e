use native.Mathlib.Omega.{arith}
use mathlib.Core.List.{[], ◌∷◌}
use mathlib.Core.Path.{◌≡◌, refl, sym, ◌∙◌}
use lib.ListN.{length}
use Rattle.std.proofs.lemmas.List.{length-append}
use Rattle.format.specs.Text.{byte_at}
use Rattle.row_lists.proofs.Listing.{far_none, far_other, far_here, far_done, lists_done}
use Rattle.place_marks.proofs.Placing.{kind_of_event}
use Rattle.place_marks.proofs.events.Goals.{then-event_on, else-event_on}
use Rattle.place_marks.proofs.events.Goals as goal

pub loop-s-init : goal.loop-s-init
loop-s-init c = rw c.new-on.ensures (omega arith, far_none _ _)

pub loop-s-preserved : goal.loop-s-preserved
loop-s-preserved c = elim c.if-event_on.branch [
  | then-event_on w ↦
      rw (w.on-is ∙ w.push.ensures)
      (omega (arith, length-append c.loop-s.on (byte_at c.args.list.now c.loop-s.s-index ∷ []), c.loop-s.invariant.0), far_here c.args.list.now _ _ refl (sym c.event_on.ensures ∙ w.if-event_on.true) c.loop-s.invariant.1)
  | else-event_on w ↦ rw w.on-is (omega (arith, c.loop-s.invariant.0), far_other c.args.list.now _ _ refl (sym c.event_on.ensures ∙ w.if-event_on.false) c.loop-s.invariant.1)
]

pub returns : goal.returns
returns c =
    let all : c.loop-s.s-index ≡ length c.args.list.now = omega (arith, c.loop-s-test.false, c.loop-s.auto.s-index-end) in
    lists_done _ (omega (arith, c.loop-s.invariant.0, all, c.requires.lists.few)) (far_done c.args.list.now _ c.requires.lists (kind_of_event _ _ _ _) (rw all at c.loop-s.invariant.1))
