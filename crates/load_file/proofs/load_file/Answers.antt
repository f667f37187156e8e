-- A file that is too long, one whose lines are refused, or one that was read whole: each leaves what load leaves (laws of `Files`).
use Rattle.load_file.proofs.Files.{too_long, no_lines_stored, cleared_long, lines_refused, lines_accepted, rows_small}
use Rattle.load_file.proofs.load_file.Goals as goal

pub returns-then-file-gt-FILE_BYTES : goal.returns-then-file-gt-FILE_BYTES
returns-then-file-gt-FILE_BYTES c = too_long _ _ c.if-file-gt-FILE_BYTES.true (rw c.at.ensures at c.refuse.ensures)

pub load_lines-requires : goal.load_lines-requires
load_lines-requires c =
    let store = c.args.store.now in
    let emptied = c.clear.ensures in
    record { store_size_in_bounds = cleared_long store emptied; stored = no_lines_stored store emptied; file_len_bound = c.if-file-gt-FILE_BYTES.false }

pub finish-requires : goal.finish-requires
finish-requires c =
    record { store_size_in_bounds = rw c.load_lines.ensures.past.length_stays (cleared_long c.args.store.now c.clear.ensures); rows_le_row_limit = rows_small _ _ (rw c.in-Ok.is at c.load_lines.ensures) }

pub returns-in-Err : goal.returns-in-Err
returns-in-Err c =
    lines_refused _ _ _ c.if-file-gt-FILE_BYTES.false _
    (rw (c.in-Err.is, c.clear.ensures) at
    c.load_lines.ensures) c.refuse-in-Err.ensures

pub returns-in-Ok : goal.returns-in-Ok
returns-in-Ok c =
    lines_accepted _ _ _ c.if-file-gt-FILE_BYTES.false _
    (rw (c.in-Ok.is, c.clear.ensures) at
    c.load_lines.ensures) c.finish.ensures
