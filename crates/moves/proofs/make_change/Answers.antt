-- Each kind of change has its function.
use Rattle.program.specs.Maybe.{◌>>=◌}
use Rattle.moves.specs.Moves.{alone_in}
use Rattle.moves.proofs.Making.{none_made}
use Rattle.moves.proofs.make_change.Goals as goal

pub returns-in_default : goal.returns-in_default
unfolding alone_in ◌>>=◌
returns-in_default c = rw (c.in_default.is, c.at.ensures) (none_made _ _)

pub returns-in-Binds : goal.returns-in-Binds
unfolding alone_in ◌>>=◌
returns-in-Binds c = rw (c.in-Some.is, c.in-Binds.is) c.make_bind.ensures

pub returns-in-Spawns : goal.returns-in-Spawns
unfolding alone_in ◌>>=◌
returns-in-Spawns c = rw (c.in-Some.is, c.in-Spawns.is) c.make_spawn.ensures

pub returns-in-Enters : goal.returns-in-Enters
unfolding alone_in ◌>>=◌
returns-in-Enters c = rw (c.in-Some.is, c.in-Enters.is) c.make_enter.ensures

pub returns-in-Applies : goal.returns-in-Applies
unfolding alone_in ◌>>=◌
returns-in-Applies c = rw (c.in-Some.is, c.in-Applies.is) c.make_apply.ensures
