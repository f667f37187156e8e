-- What `expect` and `read_number` answer are the two steps of the definition.
use Rattle.program.specs.Maybe.{◌>>=◌}
use Rattle.format.specs.Text.{read_argument}
use Rattle.read_text.proofs.read_argument.Goals as goal

pub returns-in_err-p : goal.returns-in_err-p
unfolding read_argument ◌>>=◌
returns-in_err-p c = rw (c.from_residual.ensures, ← c.in_err-p.ensures)

pub returns : goal.returns
unfolding read_argument ◌>>=◌
returns c = rw (← c.in_ok-p.ensures) c.read_number.ensures
