use Rattle.std.proofs.Common.{rules, tests, ℕ, Bool, true, false, not, ◌≡◌}
use Rattle.std.proofs.lemmas.Iterator.{first_from_Range}
use Rattle.program.specs.Flow.{keeps_at}
use Rattle.store.specs.Rows.{store_program}
use Rattle.tables.specs.Tables.{store_flow, store_comm}
use Rattle.flow.proofs.Failing.{least_found}
use Rattle.flow.proofs.failing_row.Goals as goal

pub returns : goal.returns
returns c =
    let fails : ℕ → Bool = λ r. not (keeps_at (store_program c.args.rows c.args.store.now) (store_flow c.args.store.now) (store_comm c.args.store.now) r) in
    least_found _ fails _ (first_from_Range _ _ _ _ (λ r. fails r ≡ true) (λ r. fails r ≡ false) c.find.ensures.ran
    (λ x q k. search (rules, tests))
    (λ x q k. (search rules, search (rules, tests))))
