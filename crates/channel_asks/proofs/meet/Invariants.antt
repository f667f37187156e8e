-- The bytes below i are the smaller ones.
use Prim.Native.Nat.{min}
use Rattle.sets.specs.Sets.{Bytewise}
use Rattle.channel_asks.proofs.meet.Given as goal

abbrev pub invariant-loop-i : goal.invariant-loop-i
invariant-loop-i l = Bytewise min l.i l.other l.initial.set l.set
