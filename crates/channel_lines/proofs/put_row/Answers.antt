-- The line of a chan row has the words that the grid tells; another row has no line.
use native.Mathlib.Omega.{arith}
use mathlib.Core.Path.{sym, ◌∙◌}
use Rattle.write_bytes.proofs.Writing.{nothing}
use Rattle.format.specs.Limits.{row_limit}
use Rattle.calls.proofs.Canonical.Rows.{count_rows-le}
use Rattle.channel_lines.proofs.Rows.{channel_line_lem, no_line}
use Rattle.channel_lines.proofs.put_row.Goals as goal

pub words-told-requires : goal.words-told-requires
words-told-requires c =
    let (size, counted, big) = c.requires.store_size_in_bounds in
    record { rows_le_row_limit = (omega (arith, counted, count_rows-le row_limit c.args.store.now), big); shows = c.requires.shows }

pub put_channel-requires : goal.put_channel-requires
put_channel-requires c =
    let (size, counted, big) = c.requires.store_size_in_bounds in
    rw c.words-told.ensures (rw (channel_line_lem _ _ counted _ (sym c.is_chan.ensures ∙ c.if-not-is_chan.false)) at c.requires.room)

pub returns-then-not-is_chan : goal.returns-then-not-is_chan
returns-then-not-is_chan c =
    let (size, counted, big) = c.requires.store_size_in_bounds in
    rw (no_line _ _ counted _ (sym c.is_chan.ensures ∙ c.if-not-is_chan.true)) nothing

pub returns : goal.returns
returns c =
    let (size, counted, big) = c.requires.store_size_in_bounds in
    rw (channel_line_lem _ _ counted _ (sym c.is_chan.ensures ∙ c.if-not-is_chan.false)) (rw c.words-told.ensures at c.put_channel.ensures)
