-- Where there is no room, the call is refused.
use mathlib.Core.Path.{sym, ◌∙◌}
use Rattle.run_calls.proofs.Left.{takes_one}
use Rattle.moves.proofs.Making.{made_refused}
use Rattle.moves.proofs.make_bind.Goals as goal

pub returns-then-not-has_room : goal.returns-then-not-has_room
returns-then-not-has_room c = rw c.at.ensures (made_refused _ _ c.requires.lends _ (takes_one _ _) (sym c.has_room.ensures ∙ c.if-not-has_room.true))
