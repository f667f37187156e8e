-- What the calls answer are the steps of the definition, by which of the two words stands there.
use Rattle.program.specs.Maybe.{◌>>=◌}
use Rattle.format.specs.Read.{row_words, read_row}
use Rattle.format.specs.Text.{ascii, one_of}
use Rattle.read_rows.proofs.read_row.Goals as goal

pub returns-in-Some : goal.returns-in-Some
unfolding read_row row_words one_of ascii ◌>>=◌
returns-in-Some c = rw (← c.in-Some.ensures, one_of, ← c.in_ok-name.ensures) c.read_result.ensures

pub returns-in_err-name : goal.returns-in_err-name
unfolding read_row row_words one_of ascii ◌>>=◌
returns-in_err-name c = rw (c.from_residual.ensures, ← c.in-Some.ensures, one_of, ← c.in_err-name.ensures)

pub returns-in_err-p : goal.returns-in_err-p
unfolding read_row row_words one_of ascii ◌>>=◌
returns-in_err-p c = rw (c.from_residual-in_err-p.ensures, ← c.in_default.ensures, one_of, ← c.in_err-p.ensures, one_of)

pub returns-in_err-name-2 : goal.returns-in_err-name-2
unfolding read_row row_words one_of ascii ◌>>=◌
returns-in_err-name-2 c =
    rw (c.from_residual-in_err-name-2.ensures, ← c.in_default.ensures, one_of, ← c.in_ok-p.ensures, one_of, ← c.in_err-name-2.ensures)

pub returns : goal.returns
unfolding read_row row_words one_of ascii ◌>>=◌
returns c = rw (← c.in_default.ensures, one_of, ← c.in_ok-p.ensures, one_of, ← c.in_ok-name-2.ensures) c.read_bind.ensures
