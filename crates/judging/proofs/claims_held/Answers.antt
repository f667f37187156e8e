-- `claims_held` meets its contract: no claim, or none that can fail, or what a grid tells.
use Rattle.judging.proofs.Documents.{claims_counted}
use Rattle.claims.proofs.Claiming.{held_empty, held_all}
use Rattle.claims.specs.Claims.{claim_in, holding}
use Rattle.verdicts.proofs.Wording.{words_hold}
use mathlib.Core.Path.{sym, ◌∙◌}
use borrow.Author.Tests.{eqb-true}
use Rattle.judging.proofs.claims_held.Goals as goal

pub returns-then-many-eq0 : goal.returns-then-many-eq0
unfolding holding
returns-then-many-eq0 c = let (many, few) = claims_counted c.args.store.now c.requires.store_len c.count_claims-many.ensures in (held_empty _ _ many c.if-many-eq0.true, few)

pub returns-then-is_empty : goal.returns-then-is_empty
unfolding claim_in holding
returns-then-is_empty c =
    let (many, few) = claims_counted c.args.store.now c.requires.store_len c.count_claims-many.ensures in
    let none = eqb-true _ _ (sym (rw c.rows.ensures at c.is_empty.ensures) ∙ c.if-is_empty.true) in
    (held_all _ _ many (λ k. words_hold _ _ c.listed-syncs.ensures none _ _), few)
