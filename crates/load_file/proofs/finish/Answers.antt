-- The store holds a document, so the fault of its rows and sets is that of the document (`Files.finish_refused`, `Files.finish_sound`).
use mathlib.Core.Path.{sym, ap, ◌∙◌}
use Rattle.std.specs.Result.{result_err}
use Rattle.load_file.proofs.Files.{finish_refused, finish_sound}
use Rattle.load_file.proofs.finish.Goals as goal

pub returns-in-Err : goal.returns-in-Err
returns-in-Err c =
    finish_refused _ _ _ c.requires.rows_le_row_limit
    (sym (ap result_err c.in-Err.is) ∙
    c.structure_fault.ensures) c.refuse.ensures

pub returns-in-Ok : goal.returns-in-Ok
returns-in-Ok c = finish_sound _ _ c.requires.rows_le_row_limit (sym (ap result_err c.in-Ok.is) ∙ c.structure_fault.ensures)
