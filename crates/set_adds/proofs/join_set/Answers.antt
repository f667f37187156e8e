use native.Mathlib.Omega.{arith}
use borrow.Author.Rules.{rules}
use mathlib.Core.Path.{◌≡◌}
use Prim.Native.Nat.{max}
use Rattle.set_adds.proofs.Joining.{joined_more}
use Rattle.set_adds.proofs.join_set.Goals as goal

pub loop-i-preserved : goal.loop-i-preserved
loop-i-preserved c =
    let e : c.max-more.result ≡ max c.loop-i.more c.unless_in.result = search rules in
    rw (c.join.ensures, e, c.unless_in.ensures) (joined_more c.loop-i.invariant (omega arith))
