-- What `expect` answers is the one step of the definition.
use Rattle.program.specs.Maybe.{◌>>=◌}
use Rattle.format.specs.Read.{read_result}
use Rattle.format.specs.Text.{ascii}
use Rattle.raw_rows.specs.Raw.{raw_row}
use Rattle.read_rows.proofs.read_result.Goals as goal

pub returns-in_err-next : goal.returns-in_err-next
unfolding read_result ascii ◌>>=◌
returns-in_err-next c = rw (c.from_residual.ensures, ← c.in_err-next.ensures)

pub returns : goal.returns
unfolding read_result ascii raw_row ◌>>=◌
returns c = rw (← c.in_ok-next.ensures)
