-- `take_step` meets its contract: what is joined into row b is row a, and a itself.
use native.Mathlib.Omega.{arith}
use mathlib.Core.Path.{◌≡◌, ◌∙◌}
use lib.ListN.{length}
use lib.Seq.{get_or-set_same, get_or-set_other}
use Rattle.format.specs.Limits.{row_limit}
use Rattle.grids.proofs.Stepping.{follows_step}
use borrow.Author.Rules.{rules}
use Rattle.grids.proofs.rounds.take_step.Goals as goal

pub returns : goal.returns
returns c = let size : length c.row_of-way.result ≡ row_limit = search rules in
    follows_step _ _ _ c.requires.0 c.requires.1 c.requires.2
    (λ j l d. get_or-set_other c.row_of-way.result _ j _ 0 d ∙ c.row_of-way.ensures.bytes j (omega arith))
    (get_or-set_same c.row_of-way.result _ _ 0 (omega (arith, size)))
    c.join_row.ensures (search rules)
