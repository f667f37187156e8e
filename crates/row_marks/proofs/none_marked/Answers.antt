use native.Mathlib.Omega.{arith}
use Prim.Native.Nat.{max}
use mathlib.Core.Path.{◌≡◌}
use borrow.Author.Rules.{rules}
use borrow.Author.Tests.{eqb-true}
use Rattle.format.specs.Text.{byte_at}
use Rattle.row_marks.proofs.Marking.{unmarked_more, unmarked_all}
use Rattle.row_marks.proofs.none_marked.Goals as goal

pub loop-r-preserved : goal.loop-r-preserved
loop-r-preserved c =
    let e : c.max-found.result ≡ max c.loop-r.found (byte_at c.args.marks.now c.loop-r.r) = search rules in
    unmarked_more _ _ _ c.loop-r.invariant e

pub returns : goal.returns
returns c = λ e. unmarked_all c.args.marks.now (λ r l. c.loop-r.invariant (eqb-true _ _ e) r (omega (arith, c.loop-r-test.false)))
