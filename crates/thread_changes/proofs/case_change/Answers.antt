-- A value that is neither a left nor a right allows no move.
use mathlib.Core.Path.{sym, ◌∙◌}
use Rattle.program.specs.Maybe.{◌>>=◌, ◌<|>◌}
use Rattle.machine.specs.Machine.{form_change}
use Rattle.forms.proofs.Forms.{left_at_lem, right_at_lem, lacks_left, lacks_right}
use Rattle.thread_changes.specs.Changes.{enters_with}
use Rattle.thread_changes.proofs.Rules.{either_none}
use Rattle.thread_changes.proofs.case_change.Goals as goal

pub returns-in_err-r : goal.returns-in_err-r
unfolding form_change ◌>>=◌
returns-in_err-r c = rw (c.from_residual.ensures, ← c.in_err-r.ensures)

pub returns-in-Left : goal.returns-in-Left
unfolding form_change enters_with ◌>>=◌
returns-in-Left c = rw (← c.in_ok-r.ensures, left_at_lem _ _ c.form_at.ensures, right_at_lem _ _ c.form_at.ensures, c.in-Left.is) (c.enter.ensures ∙ sym (either_none _))

pub returns-in-Right : goal.returns-in-Right
unfolding form_change enters_with ◌>>=◌ ◌<|>◌
returns-in-Right c = rw (← c.in_ok-r.ensures, left_at_lem _ _ c.form_at.ensures, right_at_lem _ _ c.form_at.ensures, c.in-Right.is) c.enter-in-Right.ensures

pub returns-in_default : goal.returns-in_default
unfolding form_change ◌>>=◌ ◌<|>◌
returns-in_default c = rw (← c.in_ok-r.ensures, left_at_lem _ _ c.form_at.ensures, right_at_lem _ _ c.form_at.ensures, lacks_left _ c.in_default.not-Left, lacks_right _ c.in_default.not-Right)
