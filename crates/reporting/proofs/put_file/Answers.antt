-- A file that load refuses has its refusal as the report, any other the report of the store that load leaves.
use Rattle.reporting.proofs.Reports.{refused_room, load_line, refused_report, loaded_report}
use Rattle.reporting.proofs.put_file.Goals as goal

pub put_refused-requires : goal.put_refused-requires
put_refused-requires c = record { line_bound = load_line _ _ _ c.in-Err.ensures.answer_is; room = refused_room c.requires.report_limit_in_bounds _ }

pub returns-in-Err : goal.returns-in-Err
returns-in-Err c =
    record {
      loaded = c.load.ensures.bytes_are;
      wrote = rw (refused_report _ _ _ c.requires.store_size_in_bounds c.in-Err.ensures.answer_is) c.put_refused.ensures;
    }

pub returns-in-Ok : goal.returns-in-Ok
returns-in-Ok c =
    record {
      loaded = c.load.ensures.bytes_are;
      wrote = rw (loaded_report _ _ _ c.in-Ok.ensures.answer_is c.load.ensures.bytes_are) c.put_store.ensures;
    }
