use Rattle.std.proofs.Common.{◌≡◌, ◌-◌, ◌+◌, sym, ◌∙◌, length, length-set, arith}
use Rattle.read_sets.proofs.Members.{members_out, members_row}
use Rattle.read_sets.proofs.read_members.Goals as goal

pub loop-preserved : goal.loop-preserved
loop-preserved c =
    let s = c.args.s.now in
    let k = length s - c.loop.counter in
    let fewer : k - 1 ≡ length s - (c.loop.counter + 1) = omega arith in (
      rw c.mark.ensures (length-set _ _ _ ∙ c.loop.invariant.0),
      λ r m h. c.loop.invariant.1 r m (members_row _ _ _ _ _ k _ _
          (omega (arith, c.loop-test.true)) (sym c.in_default.ensures) (sym c.in_ok-n.ensures) r m
          (rw (fewer, ← c.mark.ensures, ← c.fault_after-fault.ensures) h)),
    )

pub returns : goal.returns
returns c =
    let e : length c.args.s.now - c.loop.counter ≡ 0 = omega (arith, c.loop-test.false) in
    c.loop.invariant.1 _ _ (rw e (members_out _ _ _ _ _ _))
