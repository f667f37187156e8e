-- The tests are tried in their order, and the first that fails decides.
use mathlib.Core.Path.{sym, ◌∙◌}
use Rattle.canonical.proofs.Parts.{rest_decides}
use Rattle.canonical.proofs.rows_canonical.Goals as goal

pub returns-then-rows_sound : goal.returns-then-rows_sound
returns-then-rows_sound c =
    c.all_below.ensures ∙ rest_decides c.args.store.now c.args.rows c.if-rows-eq0.false (sym c.rows_sound.ensures ∙ c.if-rows_sound.true)
