-- Section, number and space, and then the rest of the line by its section.
use Rattle.std.proofs.Common.{sym, ◌∙◌}
use Rattle.std.proofs.lemmas.Result.{err_from_is_err_and}
use Rattle.program.specs.Maybe.{◌>>=◌}
use Rattle.format.specs.Text.{ascii}
use Rattle.format.specs.Read.{read_line}
use Rattle.format.specs.declared.Section.TheVariants.{Rows, Flows, Comms, Claims}
use Rattle.load_line.proofs.Keeps.{turned_back, line_kept}
use Rattle.load_line.proofs.load_line.Goals as goal

pub returns-in_err-section : goal.returns-in_err-section
unfolding read_line ◌>>=◌
returns-in_err-section c =
    let (y, is, same) = err_from_is_err_and c.from_residual.result c.from_residual.ensures.1 in
    rw is (turned_back _ _ _ same c.in_err-section.ensures.value c.in_err-section.ensures.ok_part (rw (← c.read_section.ensures, c.in_err-section.ensures.ok_part)))

pub returns-in_err-n : goal.returns-in_err-n
unfolding read_line ◌>>=◌
returns-in_err-n c =
    let (y, is, same) = err_from_is_err_and c.from_residual-in_err-n.result c.from_residual-in_err-n.ensures.1 in
    rw is (turned_back _ _ _ same c.in_err-n.ensures.value c.in_err-n.ensures.ok_part
    (rw (← c.read_section.ensures, c.in_ok-section.ensures.ok_part, ← c.read_argument.ensures, c.in_err-n.ensures.ok_part)))

pub returns-in_err-rest : goal.returns-in_err-rest
unfolding read_line ascii ◌>>=◌
returns-in_err-rest c =
    let (y, is, same) = err_from_is_err_and c.from_residual-in_err-rest.result c.from_residual-in_err-rest.ensures.1 in
    rw is (turned_back _ _ _ same c.in_err-rest.ensures.value c.in_err-rest.ensures.ok_part
    (rw (← c.read_section.ensures, c.in_ok-section.ensures.ok_part, ← c.read_argument.ensures, c.in_ok-n.ensures.ok_part, ← c.expect.ensures, c.in_err-rest.ensures.ok_part)))

pub returns-in-Rows : goal.returns-in-Rows
unfolding ascii
returns-in-Rows c =
    line_kept _ _ _ _ _ _ _ Rows (sym c.read_section.ensures ∙ c.in_ok-section.ensures.ok_part) c.in-Rows.is
    (sym c.read_argument.ensures ∙ c.in_ok-n.ensures.ok_part) (sym c.expect.ensures ∙ c.in_ok-rest.ensures.ok_part) c.keep_row.ensures

pub returns-in-Flows : goal.returns-in-Flows
unfolding ascii
returns-in-Flows c =
    line_kept _ _ _ _ _ _ _ Flows (sym c.read_section.ensures ∙ c.in_ok-section.ensures.ok_part) c.in-Flows.is
    (sym c.read_argument.ensures ∙ c.in_ok-n.ensures.ok_part) (sym c.expect.ensures ∙ c.in_ok-rest.ensures.ok_part) c.keep_set.ensures

pub returns-in-Comms : goal.returns-in-Comms
unfolding ascii
returns-in-Comms c =
    line_kept _ _ _ _ _ _ _ Comms (sym c.read_section.ensures ∙ c.in_ok-section.ensures.ok_part) c.in-Comms.is
    (sym c.read_argument.ensures ∙ c.in_ok-n.ensures.ok_part) (sym c.expect.ensures ∙ c.in_ok-rest.ensures.ok_part) c.keep_set-in-Comms.ensures

pub returns-in-Claims : goal.returns-in-Claims
unfolding ascii
returns-in-Claims c =
    line_kept _ _ _ _ _ _ _ Claims (sym c.read_section.ensures ∙ c.in_ok-section.ensures.ok_part) c.in-Claims.is
    (sym c.read_argument.ensures ∙ c.in_ok-n.ensures.ok_part) (sym c.expect.ensures ∙ c.in_ok-rest.ensures.ok_part) c.keep_claim.ensures
