-- The tests are tried in their order: a kind, the bytes that a row of that kind does not use, then its numbers.
use mathlib.Core.Path.{sym, ◌∙◌}
use Rattle.row_bytes.proofs.RowBytes.{row_numbers_lem}
use Rattle.row_bytes.proofs.row_sound.Goals as goal

pub returns-then-all_below : goal.returns-then-all_below
returns-then-all_below c =
    c.all_below-then-all_below.ensures ∙ row_numbers_lem c.args.row.now _ c.requires c.used_bytes-used.ensures.0 c.if-used-eq0.false
    (sym c.all_below.ensures ∙ c.if-all_below.true)
