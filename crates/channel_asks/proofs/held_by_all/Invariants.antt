-- The channels so far hold the set.
use Rattle.channel_asks.proofs.Channels.{Holding}
use Rattle.channel_asks.proofs.held_by_all.Given as goal

abbrev pub invariant-loop-k : goal.invariant-loop-k
invariant-loop-k l = Holding l.chans l.store l.k-index l.all
