use Rattle.std.proofs.Common.{rules, ◌≡◌, max, arith}
use Rattle.sets.proofs.Members.{within_more}
use Rattle.sets.proofs.within.Goals as goal

pub loop-i-preserved : goal.loop-i-preserved
loop-i-preserved c =
    let e : c.max-rest.result ≡ max c.loop-i.rest c.unless_in.result = search rules in
    record { some = omega arith; lies = rw (e, c.unless_in.ensures) (within_more _ _ _ _ c.loop-i.invariant.lies) }
