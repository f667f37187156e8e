-- The eight bytes are put in their place.
use Rattle.std.proofs.Common.{arith, ◌+◌, ◌*◌, ◌≡◌, ◌∙◌, length}
use Rattle.calls.specs.Layout.{row_size, row_bytes}
use Rattle.calls.proofs.Codec.Rows.{row_size_lem}
use Rattle.store.proofs.Laws.{placed}
use Rattle.kept_rows.proofs.put_row.Goals as goal

pub returns : goal.returns
returns c =
    let p = c.args.r * row_size in
    let bytes = row_bytes c.args.row in
    let size : length bytes ≡ row_size = row_size_lem c.args.row in
    rw (c.copy_from_slice.ensures.after ∙ c.cells_of.ensures) (placed p (p + row_size) c.args.store.now bytes (omega arith) c.requires)
