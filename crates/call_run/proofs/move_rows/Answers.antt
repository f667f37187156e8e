-- A thread that is not there has no move.
use native.Mathlib.Omega.{arith}
use mathlib.Core.Path.{refl, ap}
use Rattle.run_memory.specs.declared.InUse.{InUse}
use Rattle.call_run.proofs.RunMoves.{none_leaves, leaves_same, no_thread, alone_is}
use Rattle.call_run.proofs.move_rows.Goals as goal

pub returns-then-used-thread : goal.returns-then-used-thread
returns-then-used-thread c = let e = ap (λ (n : InUse). n.threads) c.in_use-used.ensures in rw c.at.ensures (none_leaves _ _ _ (no_thread _ _ _ _ (omega (arith, e, c.if-used-thread.true))))

pub returns : goal.returns
returns c =
    let e = ap (λ (n : InUse). n.threads) c.in_use-used.ensures in
    leaves_same _ _ (alone_is _ _ _ (omega (arith, c.requires.lends.records, c.requires.lends.threads)) _ _ (omega (arith, e, c.if-used-thread.false)) refl c.change-c.ensures) c.make_change.ensures
