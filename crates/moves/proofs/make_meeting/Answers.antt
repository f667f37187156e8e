-- Both ends take a cell, or nothing is found.
use Rattle.program.specs.Maybe.{◌>>=◌}
use Rattle.moves.specs.Moves.{together_in}
use Rattle.moves.proofs.Making.{none_made}
use Rattle.moves.proofs.make_meeting.Goals as goal

pub returns-in-None : goal.returns-in-None
unfolding together_in ◌>>=◌
returns-in-None c = rw (c.in-None.is, c.at.ensures) (none_made _ _)

pub returns-in-Some : goal.returns-in-Some
unfolding together_in ◌>>=◌
returns-in-Some c = rw c.in-Some.is c.make_both.ensures
