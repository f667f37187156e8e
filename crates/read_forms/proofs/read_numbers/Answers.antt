use Rattle.std.proofs.Common.{sym, ◌∙◌}
use Rattle.read_forms.proofs.Forms.{more_zeros, more_end, more_stop, more_next}
use Rattle.read_forms.proofs.read_numbers.Goals as goal

pub loop-i-init : goal.loop-i-init
loop-i-init c = more_zeros _ _ _

pub returns-in_err-n : goal.returns-in_err-n
returns-in_err-n c = c.from_residual.ensures ∙ (sym (more_stop _ _ _ _ _ c.loop-i-test.true c.in_err-n.ensures) ∙ c.loop-i.invariant)

pub loop-i-preserved : goal.loop-i-preserved
loop-i-preserved c = more_next _ _ _ _ _ _ _ c.loop-i-test.true c.in_ok-n.ensures ∙ c.loop-i.invariant

pub returns : goal.returns
returns c = sym (more_end _ _ _ _ _ c.loop-i-test.false) ∙ c.loop-i.invariant
