-- What was read is the line of a set (`Keeps.set_line_lem`); its fault decides whether it is refused, or the set put where the store had none.
use Rattle.std.proofs.Common.{refl, sym, ◌∙◌}
use Rattle.std.proofs.lemmas.Result.{err_from_is_err_and}
use Rattle.format.specs.Text.{ascii}
use Rattle.progress.proofs.Faults.{set_fits}
use Rattle.load_line.proofs.Keeps.{turned_back, set_line_missing, set_line_cut, set_line_lem, set_refused, set_room, set_put}
use Rattle.load_line.proofs.keep_set.Goals as goal

pub returns-in_err-e : goal.returns-in_err-e
returns-in_err-e c =
    let (y, is, same) = err_from_is_err_and c.from_residual.result c.from_residual.ensures.1 in
    rw is (turned_back _ _ _ same c.in_err-e.ensures.value c.in_err-e.ensures.ok_part
    (set_line_missing c.args.table _ _ _ _ _ c.read_set.ensures c.in_err-e.ensures.ok_part))

pub returns-in_err-next : goal.returns-in_err-next
unfolding ascii
returns-in_err-next c =
    let (y, is, same) = err_from_is_err_and c.from_residual-in_err-next.result c.from_residual-in_err-next.ensures.1 in
    rw is (turned_back _ _ _ same c.in_err-next.ensures.value c.in_err-next.ensures.ok_part
    (set_line_cut c.args.table _ _ _ _ _ c.read_set.ensures c.in_ok-e.ensures.ok_part (sym c.expect.ensures ∙ c.in_err-next.ensures.ok_part)))

pub returns-in_err-set_fault : goal.returns-in_err-set_fault
unfolding ascii
returns-in_err-set_fault c =
    let (y, is, same) = err_from_is_err_and c.from_residual-in_err-set_fault.result c.from_residual-in_err-set_fault.ensures.1 in
    let (ms, q, f, l) = set_line_lem c.args.table _ _ c.args.n _ _ c.read_set.ensures c.in_ok-e.ensures.ok_part (sym c.expect.ensures ∙ c.in_ok-next.ensures.ok_part) refl in
    rw (is, same) (set_refused c.args.table _ _ _ _ ms _ q _ f _ (sym c.in_err-set_fault.ensures))

pub place_of-place-requires : goal.place_of-place-requires
place_of-place-requires c = (set_fits c.args.table _ _ _ (sym c.in_ok-set_fault.ensures)).0

pub slice_bounds-copy_from_slice-end : goal.slice_bounds-copy_from_slice-end
slice_bounds-copy_from_slice-end c = rw c.place_of-place.ensures (set_room c.args.table _ _ _ _ c.requires.store_size_in_bounds (sym c.in_ok-set_fault.ensures))

pub returns : goal.returns
unfolding ascii
returns c =
    let (ms, q, f, l) = set_line_lem c.args.table _ _ c.args.n _ _ c.read_set.ensures c.in_ok-e.ensures.ok_part (sym c.expect.ensures ∙ c.in_ok-next.ensures.ok_part) refl in
    rw (c.copy_from_slice.ensures.after, l, c.place_of-place.ensures, c.with_set.ensures)
    (set_put c.args.table _ _ _ _ ms _ q _ f c.requires.small c.requires.store_size_in_bounds (sym c.in_ok-set_fault.ensures))
