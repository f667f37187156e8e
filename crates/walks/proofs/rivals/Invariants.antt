-- None of the spawns so far is such a row.
use mathlib.Core.Bool.{false}
use mathlib.Core.Path.{◌≡◌}
use Rattle.walks.proofs.Walking.{one_of, parts}
use Rattle.walks.proofs.rivals.Given as goal

abbrev pub invariant-loop-q : goal.invariant-loop-q
invariant-loop-q l = one_of l.spawns (parts l.rows l.store l.reached l.places l.ahead) l.q-index ≡ false
