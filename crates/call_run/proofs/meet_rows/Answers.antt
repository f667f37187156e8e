-- A thread that is not there has no meeting.
use native.Mathlib.Omega.{arith}
use mathlib.Core.Path.{refl, ap}
use Rattle.run_memory.specs.declared.InUse.{InUse}
use Rattle.call_run.proofs.RunMoves.{none_leaves, leaves_same, no_sender, no_receiver, together_is}
use Rattle.call_run.proofs.meet_rows.Goals as goal

pub returns-then-used-sender : goal.returns-then-used-sender
returns-then-used-sender c = let e = ap (λ (n : InUse). n.threads) c.in_use-used.ensures in rw c.at.ensures (none_leaves _ _ _ (no_sender _ _ _ _ _ (omega (arith, e, c.if-used-sender.true))))

pub returns-then-used-receiver : goal.returns-then-used-receiver
returns-then-used-receiver c =
    let e = ap (λ (n : InUse). n.threads) c.in_use-used.ensures in
    rw c.at-then-used-receiver.ensures (none_leaves _ _ _ (no_receiver _ _ _ (omega (arith, c.requires.lends.records, c.requires.lends.threads)) _ _ (omega (arith, e, c.if-used-sender.false)) (omega (arith, e, c.if-used-receiver.true))))

pub returns : goal.returns
returns c =
    let e = ap (λ (n : InUse). n.threads) c.in_use-used.ensures in
    leaves_same _ _ (together_is _ _ _ (omega (arith, c.requires.lends.records, c.requires.lends.threads)) _ _ _ (omega (arith, e, c.if-used-sender.false)) (omega (arith, e, c.if-used-receiver.false)) refl refl c.meeting-met.ensures) c.make_meeting.ensures
