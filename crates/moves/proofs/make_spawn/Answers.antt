-- Where there is no room, the call is refused.
use native.Mathlib.Omega.{arith}
use mathlib.Core.Path.{sym, ◌∙◌, ap}
use lib.ListN.{length-set}
use Rattle.run_memory.specs.declared.InUse.{InUse}
use Rattle.run_calls.proofs.Left.{takes_one}
use Rattle.moves.proofs.Making.{made_refused, room_told}
use Rattle.moves.proofs.make_spawn.Goals as goal

pub returns-then-not-has_room : goal.returns-then-not-has_room
returns-then-not-has_room c = rw c.at.ensures (made_refused _ _ c.requires.lends _ (takes_one _ _) (sym c.has_room.ensures ∙ c.if-not-has_room.true))

pub bounds-threads-next : goal.bounds-threads-next
bounds-threads-next c =
    let room = room_told _ 1 0 1 (sym c.has_room.ensures ∙ c.if-not-has_room.false) in
    let n = ap (λ (n : InUse). n.threads) c.in_use-next.ensures in
    let size = length-set c.args.threads.now c.args.n c.args.t in
    omega (arith, n, size, room.threads, c.requires.lends.records)
