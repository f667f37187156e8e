use native.Mathlib.Omega.{arith}
use mathlib.Core.Path.{sym, ◌∙◌}
use Rattle.claims.specs.Claims.{claim_in, holding}
use Rattle.claims.proofs.Claiming.{held_none, held_holds, held_fails, held_end}
use Rattle.claims.proofs.judge_claims.Goals as goal

pub loop-c-preserved-then-code-eq0 : goal.loop-c-preserved-then-code-eq0
loop-c-preserved-then-code-eq0 c =
    (omega (arith, c.loop-c.invariant.0), sym (held_none _ _ _ _ _ c.loop-c-test.true c.byte_at-code.ensures c.if-code-eq0.true) ∙ c.loop-c.invariant.1)

pub loop-c-preserved : goal.loop-c-preserved
unfolding claim_in
loop-c-preserved c =
    let holds = sym (rw c.word_of-word.ensures at c.word_holds.ensures) ∙ c.if-not-word_holds.false in
    let more = held_holds _ _ _ _ _ c.loop-c-test.true c.byte_at-code.ensures c.if-code-eq0.false holds in
    (omega (arith, c.loop-c.invariant.0), sym more ∙ c.loop-c.invariant.1)

pub returns-then-not-word_holds : goal.returns-then-not-word_holds
unfolding claim_in holding
returns-then-not-word_holds c =
    let fails = sym (rw c.word_of-word.ensures at c.word_holds.ensures) ∙ c.if-not-word_holds.true in
    let first = held_fails _ _ _ _ _ c.loop-c-test.true c.byte_at-code.ensures c.if-code-eq0.false fails in
    (sym first ∙ c.loop-c.invariant.1, omega (arith, c.loop-c.invariant.0, c.loop-c-test.true))

pub returns : goal.returns
unfolding holding
returns c =
    (sym (held_end _ _ _ _ _ c.loop-c-test.false) ∙ c.loop-c.invariant.1, omega (arith, c.loop-c.invariant.0, c.loop-c.auto.c-end))
