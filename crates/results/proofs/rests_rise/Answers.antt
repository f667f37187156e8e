use Rattle.std.proofs.Common.{refl, sym, ◌∙◌, rules, tests}
use native.Mathlib.Nat.{sub-zero}
use Rattle.std.proofs.lemmas.Iterator.{YieldsList-from_range}
use Rattle.std.proofs.lemmas.Iterator.Search.{all_from_yields_List}
use Rattle.store.specs.Rows.{store_program}
use Rattle.results.specs.Results.{rest_rises}
use Rattle.results.proofs.Following.{rising_listed}
use Rattle.results.proofs.rests_rise.Goals as goal

pub returns : goal.returns
returns c =
    let p = store_program c.args.rows c.args.store.now in
    let listed = all_from_yields_List (rest_rises p) _ _ _ c.all.ensures.ran (YieldsList-from_range 0 c.args.rows c.args.rows refl (sub-zero _)) (λ x b q k. search (rules, tests)) in
    λ e. rising_listed p c.args.rows (sym listed ∙ e)
