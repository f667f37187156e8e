-- What was read is a claim's line (`Keeps.claim_read`); its fault decides whether it is refused, or its code put where the store had none.
use Rattle.std.proofs.Common.{sym, ◌∙◌}
use Rattle.std.proofs.lemmas.Result.{err_from_is_err_and}
use Rattle.program.specs.Maybe.{◌>>=◌}
use Rattle.format.specs.Text.{ascii}
use Rattle.format.specs.Read.{read_content}
use Rattle.load_line.specs.Line.{read_rest}
use Rattle.load_line.proofs.Keeps.{turned_back, claim_read, claim_refused, claim_room, claim_kept}
use Rattle.load_line.proofs.keep_claim.Goals as goal

pub returns-in_err-word : goal.returns-in_err-word
unfolding read_rest read_content ◌>>=◌
returns-in_err-word c =
    let (y, is, same) = err_from_is_err_and c.from_residual.result c.from_residual.ensures.1 in
    rw is (turned_back _ _ _ same c.in_err-word.ensures.value c.in_err-word.ensures.ok_part (rw (← c.read_word.ensures, c.in_err-word.ensures.ok_part)))

pub returns-in_err-next : goal.returns-in_err-next
unfolding read_rest read_content ascii ◌>>=◌
returns-in_err-next c =
    let (y, is, same) = err_from_is_err_and c.from_residual-in_err-next.result c.from_residual-in_err-next.ensures.1 in
    rw is (turned_back _ _ _ same c.in_err-next.ensures.value c.in_err-next.ensures.ok_part
    (rw (← c.read_word.ensures, c.in_ok-word.ensures.ok_part, ← c.expect.ensures, c.in_err-next.ensures.ok_part)))

pub returns-in_err-claim_fault : goal.returns-in_err-claim_fault
unfolding ascii
returns-in_err-claim_fault c =
    let (y, is, same) = err_from_is_err_and c.from_residual-in_err-claim_fault.result c.from_residual-in_err-claim_fault.ensures.1 in
    rw (is, same) (claim_refused _ _ _ _ _ _
    (claim_read _ _ _ _ _ _ (sym c.read_word.ensures ∙ c.in_ok-word.ensures.ok_part) (sym c.expect.ensures ∙ c.in_ok-next.ensures.ok_part)) _
    (sym c.in_err-claim_fault.ensures))

pub bounds-store-c : goal.bounds-store-c
bounds-store-c c = claim_room _ _ _ c.requires.store_size_in_bounds (sym c.in_ok-claim_fault.ensures)

pub returns : goal.returns
unfolding ascii
returns c =
    rw (c.word_code.ensures, c.with_claim.ensures)
    (claim_kept _ _ _ _ _ _
    (claim_read _ _ _ _ _ _ (sym c.read_word.ensures ∙ c.in_ok-word.ensures.ok_part) (sym c.expect.ensures ∙ c.in_ok-next.ensures.ok_part))
    c.requires.small c.requires.store_size_in_bounds (sym c.in_ok-claim_fault.ensures))
