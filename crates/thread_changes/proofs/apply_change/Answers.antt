-- A value that is no function allows no move, nor does an argument without a value.
use Rattle.program.specs.Maybe.{◌>>=◌}
use Rattle.machine.specs.Machine.{form_change}
use Rattle.forms.proofs.Forms.{fun_at_lem, lacks_fun}
use Rattle.thread_changes.proofs.Rules.{applies}
use Rattle.thread_changes.proofs.apply_change.Goals as goal

pub returns-in_err-r : goal.returns-in_err-r
unfolding form_change ◌>>=◌
returns-in_err-r c = rw (c.from_residual.ensures, ← c.in_err-r.ensures)

pub returns-in_default : goal.returns-in_default
unfolding form_change ◌>>=◌
returns-in_default c = rw (← c.in_ok-r.ensures, fun_at_lem _ _ c.form_at.ensures, lacks_fun _ c.in_default.not-Fun)

pub returns-in_err-held : goal.returns-in_err-held
unfolding form_change ◌>>=◌
returns-in_err-held c = rw (c.from_residual-in_err-held.ensures, ← c.in_ok-r.ensures, fun_at_lem _ _ c.form_at.ensures, c.in-Fun.is, ← c.in_err-held.ensures)

pub returns : goal.returns
unfolding form_change ◌>>=◌
returns c = rw (← c.in_ok-r.ensures, fun_at_lem _ _ c.form_at.ensures, c.in-Fun.is, ← c.in_ok-held.ensures, c.return_of.ensures) (applies _ _ _ _ c.in_use-n.ensures _ _ _ _ _ _ _ c.next_frame.ensures)
