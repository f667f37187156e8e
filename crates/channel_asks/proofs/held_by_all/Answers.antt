use Rattle.channel_asks.proofs.Channels.{none_held}
use Rattle.channel_asks.proofs.held_by_all.Goals as goal

pub returns-then-set-lt-MEMBERS : goal.returns-then-set-lt-MEMBERS
returns-then-set-lt-MEMBERS c = none_held _ _
