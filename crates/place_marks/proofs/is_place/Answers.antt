-- `is_place` meets its contract: a row that is no sync row, or one of a name past the last, is no place.
use mathlib.Core.Path.{sym, ap, ◌∙◌}
use Rattle.program.specs.Program.{sync_of}
use Rattle.forms.proofs.Forms.{sync_at_lem}
use Rattle.place_marks.proofs.Placing.{place_none, place_past, place_is}
use Rattle.forms.proofs.Forms.{lacks_sync}
use Rattle.place_marks.proofs.is_place.Goals as goal

pub returns-in_default : goal.returns-in_default
returns-in_default c = λ side k h. sym (place_none _ _ side k _ (sync_at_lem _ _ c.form_at.ensures ∙ lacks_sync c.form_at.result c.in_default.not-Sync))

pub returns-then-name-ge-ROWS : goal.returns-then-name-ge-ROWS
returns-then-name-ge-ROWS c = λ side k h. sym (place_past _ _ side k _ (sync_at_lem _ _ c.form_at.ensures ∙ ap sync_of c.in-Sync.is) c.if-name-ge-ROWS.true)

pub returns : goal.returns
returns c = λ side k h. c.has_event.ensures ∙ place_is _ _ side k _ _ c.requires (sync_at_lem _ _ c.form_at.ensures ∙ ap sync_of c.in-Sync.is) c.if-name-ge-ROWS.false h
