use Rattle.write_bytes.proofs.Writing.{room_first}
use Rattle.write_claims.proofs.Claims.{claims_next, claims_end}
use Rattle.write_bytes.proofs.Progress.{same_rest, room_left, onward, finished}
use Rattle.write_claims.proofs.put_claims.Goals as goal

pub put_claim-next-requires : goal.put_claim-next-requires
put_claim-next-requires c = room_first _ _ (room_left (same_rest (claims_next _ _ c.loop-c-test.true) c.loop-c.invariant))

pub loop-c-preserved : goal.loop-c-preserved
loop-c-preserved c =
    onward (same_rest (claims_next _ _ c.loop-c-test.true) c.loop-c.invariant) c.put_claim-next.ensures

pub returns : goal.returns
returns c = finished (same_rest (claims_end _ _ c.loop-c-test.false) c.loop-c.invariant)
