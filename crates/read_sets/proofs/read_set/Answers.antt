-- The bracket, the first member and the rest, by the laws of `Members`.
use Rattle.program.specs.Maybe.{◌>>=◌}
use Rattle.format.specs.Read.{read_set}
use Rattle.format.specs.Text.{ascii}
use Rattle.read_sets.proofs.read_set.Goals as goal

pub returns-in_err-p : goal.returns-in_err-p
unfolding read_set ascii ◌>>=◌
returns-in_err-p c = rw (c.from_residual.ensures, ← c.in_err-p.ensures)
