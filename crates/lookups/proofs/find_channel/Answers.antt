-- What is found is a channel or not.
use Rattle.program.specs.Maybe.{◌>>=◌}
use Rattle.machine.specs.Machine.{channel_held_by, find_channel}
use Rattle.lookups.proofs.Cells.{no_channel}
use Rattle.lookups.proofs.find_channel.Goals as goal

pub returns-in_err-cell : goal.returns-in_err-cell
unfolding find_channel ◌>>=◌
returns-in_err-cell c = rw (c.from_residual.ensures, ← c.in_err-cell.ensures)

pub returns-in-Channel : goal.returns-in-Channel
unfolding find_channel channel_held_by ◌>>=◌
returns-in-Channel c = rw (← c.in_ok-cell.ensures, c.in-Channel.is)

pub returns-in_default : goal.returns-in_default
unfolding find_channel ◌>>=◌
returns-in_default c = rw (← c.in_ok-cell.ensures, no_channel _ c.in_default.not-Channel)
