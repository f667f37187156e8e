-- Why the store does not open, or the report of a store that does.
use Rattle.reporting.proofs.Reports.{refused_room, closed_line, closed_text}
use Rattle.reporting.proofs.put_store.Goals as goal

pub put_refused-requires : goal.put_refused-requires
put_refused-requires c = record { line_bound = closed_line _ _ c.in-Err.ensures; room = refused_room c.requires _ }

pub returns-in-Err : goal.returns-in-Err
returns-in-Err c =
    rw (closed_text _ _ c.in-Err.ensures) c.put_refused.ensures
