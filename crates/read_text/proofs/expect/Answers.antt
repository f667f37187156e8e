-- A byte of the word is not 0, so where it is found it stands inside the slice, and the next position is a usize.
use Rattle.std.proofs.Common.{sym, ◌∙◌, arith}
use Rattle.read_text.proofs.Reading.{word_inside, expect_step, expect_stop, expect_end}
use Rattle.read_text.proofs.expect.Goals as goal

pub returns-then-b-w : goal.returns-then-b-w
returns-then-b-w c = sym (expect_stop _ _ _ _ c.loop-w-test.true (λ e. c.if-b-w.true (c.byte_at-b.ensures ∙ e))) ∙ c.loop-w.invariant

pub overflow_add-next : goal.overflow_add-next
overflow_add-next c = omega (
  arith,
  word_inside c.args.word.now c.args.s.now
      c.loop-w.w-index c.loop-w.next c.requires
      c.loop-w-test.true (sym c.byte_at-b.ensures ∙ c.if-b-w.false),
)

pub loop-w-preserved : goal.loop-w-preserved
loop-w-preserved c = sym (expect_step _ _ _ _ c.loop-w-test.true (sym c.byte_at-b.ensures ∙ c.if-b-w.false)) ∙ c.loop-w.invariant

pub returns : goal.returns
returns c = sym (expect_end _ _ _ _ c.loop-w-test.false) ∙ c.loop-w.invariant
