use Prim.Native.Nat.{max, min}
use mathlib.Core.Path.{◌≡◌, refl}
use borrow.Author.Rules.{rules}
use Rattle.program.specs.Test.{any}
use Rattle.format.specs.Text.{byte_at}
use Rattle.row_marks.specs.RowMarks.{three_meet}
use Rattle.row_marks.proofs.Marking.{three_more}
use Rattle.row_marks.proofs.three_meet.Goals as goal

pub loop-i-init : goal.loop-i-init
unfolding three_meet any
loop-i-init c = refl

pub loop-i-preserved : goal.loop-i-preserved
loop-i-preserved c =
    let x : c.min-x.result ≡ min (byte_at c.args.b.now c.loop-i.i) (byte_at c.args.c.now c.loop-i.i) = search rules in
    let y : c.min-y.result ≡ min (byte_at c.args.a.now c.loop-i.i) c.min-x.result = search rules in
    let next : c.max-found.result ≡ max c.loop-i.found c.min-y.result = search rules in
    three_more _ _ c.args.a.now c.args.b.now c.args.c.now c.loop-i.invariant x y next
