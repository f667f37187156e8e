use native.Mathlib.Omega.{arith}
use mathlib.Core.Path.{refl, sym, ◌∙◌}
use borrow.Author.Tests.{eqb-true}
use Rattle.tables.proofs.Tables.{bool_byte_lem}
use Rattle.channel_asks.proofs.Channels.{fails_none, fails_more, fails_all, send_other}
use Rattle.channel_asks.proofs.passing_sends.Goals as goal

pub returns-then-is_empty : goal.returns-then-is_empty
returns-then-is_empty c =
    fails_all _ (sym (eqb-true _ _ (sym c.is_empty.ensures ∙ c.if-is_empty.true))) c.requires.lists_2 (λ q l h. send_other _ _ _ q l h) (fails_none _ _ c.requires.sized.few)

pub loop-s-init : goal.loop-s-init
loop-s-init c = fails_none _ _ c.requires.sized.few

pub loop-s-preserved : goal.loop-s-preserved
loop-s-preserved c =
    let below = (c.requires.lists_2.rows c.loop-s.s-index c.loop-s-test.true).0 in
    fails_more c.args.sends.now _ _ refl (omega (arith, below, c.requires.sized.few)) (bool_byte_lem _ ∙ c.send_passes.ensures) c.loop-s.invariant

pub returns : goal.returns
returns c = fails_all _ (omega (arith, c.loop-s-test.false, c.loop-s.auto.s-index-end)) c.requires.lists_2 (λ q l h. send_other _ _ _ q l h) c.loop-s.invariant
