-- What the calls answer are the steps of the definition.
use Rattle.program.specs.Maybe.{◌>>=◌}
use Rattle.format.specs.Read.{read_bind}
use Rattle.format.specs.Text.{ascii}
use Rattle.raw_rows.specs.Raw.{raw_row}
use Rattle.read_rows.proofs.read_bind.Goals as goal

pub returns-in_err-p : goal.returns-in_err-p
unfolding read_bind ascii ◌>>=◌
returns-in_err-p c = rw (c.from_residual.ensures, ← c.in_err-p.ensures)

pub returns-in_err-form : goal.returns-in_err-form
unfolding read_bind ascii ◌>>=◌
returns-in_err-form c = rw (c.from_residual-in_err-form.ensures, ← c.in_ok-p.ensures, ← c.in_err-form.ensures.reads)

pub returns-in_err-rest : goal.returns-in_err-rest
unfolding read_bind ascii ◌>>=◌
returns-in_err-rest c = rw (c.from_residual-in_err-rest.ensures, ← c.in_ok-p.ensures, ← c.in_ok-form.ensures.reads, ← c.in_err-rest.ensures)

pub returns-in_err-next : goal.returns-in_err-next
unfolding read_bind ascii ◌>>=◌
returns-in_err-next c =
    rw (c.from_residual-in_err-next.ensures, ← c.in_ok-p.ensures, ← c.in_ok-form.ensures.reads, ← c.in_ok-rest.ensures, ← c.in_err-next.ensures)

pub returns : goal.returns
unfolding read_bind raw_row ascii ◌>>=◌
returns c = rw (← c.in_ok-p.ensures, ← c.in_ok-form.ensures.reads, ← c.in_ok-rest.ensures, ← c.in_ok-next.ensures)
