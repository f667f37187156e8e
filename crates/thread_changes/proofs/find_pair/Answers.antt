-- A value that is no pair has no names.
use Rattle.program.specs.Maybe.{◌>>=◌}
use Rattle.forms.proofs.Forms.{pair_at_lem, lacks_pair}
use Rattle.thread_changes.specs.Changes.{pair_of_name}
use Rattle.thread_changes.proofs.find_pair.Goals as goal

pub returns-in_err-r : goal.returns-in_err-r
unfolding pair_of_name ◌>>=◌
returns-in_err-r c = rw (c.from_residual.ensures, ← c.in_err-r.ensures)

pub returns-in_default : goal.returns-in_default
unfolding pair_of_name ◌>>=◌
returns-in_default c = rw (← c.in_ok-r.ensures, pair_at_lem _ _ c.form_at.ensures, lacks_pair _ c.in_default.not-Pair)

pub returns : goal.returns
unfolding pair_of_name ◌>>=◌
returns c = rw (← c.in_ok-r.ensures, pair_at_lem _ _ c.form_at.ensures, c.in-Pair.is)
