-- What was read is a row's line (`Keeps.row_read_lem`); its fault decides whether it is refused, or the row put where the store had none.
use Rattle.std.proofs.Common.{arith, ap, sym, ◌∙◌}
use Rattle.std.proofs.lemmas.Result.{err_from_is_err_and}
use Rattle.program.specs.Maybe.{◌>>=◌}
use Rattle.format.specs.Text.{ascii}
use Rattle.format.specs.Read.{read_content}
use Rattle.read_rows.specs.Reads.{row_read}
use Rattle.progress.proofs.Faults.{row_fits}
use Rattle.load_line.specs.Line.{read_rest}
use Rattle.load_line.proofs.Keeps.{turned_back, row_read_lem, row_refused, row_room, row_kept}
use Rattle.load_line.proofs.keep_row.Goals as goal

pub returns-in_err-raw : goal.returns-in_err-raw
unfolding read_rest read_content ◌>>=◌
returns-in_err-raw c =
    let (y, is, same) = err_from_is_err_and c.from_residual.result c.from_residual.ensures.1 in
    rw is (turned_back _ _ _ same c.in_err-raw.ensures.value c.in_err-raw.ensures.ok_part (rw (← c.read_row.ensures, c.in_err-raw.ensures.ok_part)))

pub returns-in_err-next : goal.returns-in_err-next
unfolding read_rest read_content ascii ◌>>=◌
returns-in_err-next c =
    let (y, is, same) = err_from_is_err_and c.from_residual-in_err-next.result c.from_residual-in_err-next.ensures.1 in
    rw is (turned_back _ _ _ same c.in_err-next.ensures.value c.in_err-next.ensures.ok_part
    (rw (← c.read_row.ensures, c.in_ok-raw.ensures.ok_part, ← c.expect.ensures, c.in_err-next.ensures.ok_part)))

pub returns-in_err-row_fault : goal.returns-in_err-row_fault
unfolding ascii
returns-in_err-row_fault c =
    let (y, is, same) = err_from_is_err_and c.from_residual-in_err-row_fault.result c.from_residual-in_err-row_fault.ensures.1 in
    rw (is, same) (row_refused _ _ _ _ _ _
    (row_read_lem _ _ _ _ _ _ (sym c.read_row.ensures ∙ ap row_read c.in_ok-raw.ensures.ok_part) (sym c.expect.ensures ∙ c.in_ok-next.ensures.ok_part)) _
    (sym (rw c.row_above.ensures at c.in_err-row_fault.ensures)))

pub overflow_cast-n-2 : goal.overflow_cast-n-2
overflow_cast-n-2 c = omega (arith, (row_fits _ _ _ (sym c.in_ok-row_fault.ensures)).0)

pub row_of-requires : goal.row_of-requires
row_of-requires c = sym c.row_above.ensures ∙ (row_fits _ _ _ (sym c.in_ok-row_fault.ensures)).1

pub put_row-requires : goal.put_row-requires
put_row-requires c = row_room _ _ c.requires.store_size_in_bounds (row_fits _ _ _ (sym c.in_ok-row_fault.ensures)).0

pub returns : goal.returns
unfolding ascii
returns c =
    rw (c.put_row.ensures, c.row_of.ensures, c.with_row.ensures)
    (row_kept _ _ _ _ _ _
    (row_read_lem _ _ _ _ _ _ (sym c.read_row.ensures ∙ ap row_read c.in_ok-raw.ensures.ok_part) (sym c.expect.ensures ∙ c.in_ok-next.ensures.ok_part))
    c.requires.small c.requires.store_size_in_bounds (sym (rw c.row_above.ensures at c.in_ok-row_fault.ensures)))
