use Rattle.std.proofs.Common.{arith, ◌≡◌}
use Rattle.received.specs.Received.{Gives}
use Rattle.received.proofs.Gathering.{gathered_none, gathered_more, gathered_block, takes_as, takes_none, free_row}
use Rattle.received.proofs.gather.Goals as goal
use Rattle.received.proofs.gather.Goals.{in-Some, in_default}

pub loop-k-init : goal.loop-k-init
loop-k-init g c = (omega arith, λ f quiet tells. gathered_none f)

pub loop-k-preserved-then-block_free : goal.loop-k-preserved-then-block_free
loop-k-preserved-then-block_free g c =
    let free = c.block_free.ensures c.if-block_free.true in (
      omega (arith, c.min-k.ensures),
      λ f quiet tells. rw c.min-k.ensures (gathered_block 16 _ c.loop-k.invariant.0 (c.loop-k.invariant.1 f quiet tells) λ i l m. quiet i (free_row _ _ 16 free i l m)),
    )

pub loop-k-preserved : goal.loop-k-preserved
unfolding Gives
loop-k-preserved g c = (
  omega arith,
  λ f quiet tells. gathered_more (c.loop-k.invariant.1 f quiet tells) (elim c.match-given.branch [
    | in-Some w ↦ rw w.set-is (takes_as _ _ (rw w.in-Some.is at (tells _ _ c.loop-k-test.true c.given.ensures)) w.join.ensures)
    | in_default w ↦ rw w.set-is (takes_none _ _ (rw w.in_default.is at (tells _ _ c.loop-k-test.true c.given.ensures)))
  ]),
)

pub returns : goal.returns
returns g c = λ f quiet tells. let q : c.loop-k.k ≡ c.args.rows = omega arith in rw q at (c.loop-k.invariant.1 f quiet tells)
