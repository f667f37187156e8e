-- `scope_row` and `scope_form` meet their contracts. The measures are the fuels: two for each row above the current one, and one more for the row itself.
use Prim.Native.Nat.{◌+◌, ◌*◌, ◌-◌}
use Rattle.scope.proofs.+scope_form_scope_row.Given as goal

abbrev pub decreases-scope_form : goal.decreases-scope_form
decreases-scope_form l = 2 * (l.rows - l.r)

abbrev pub decreases-scope_row : goal.decreases-scope_row
decreases-scope_row l = 2 * (l.rows - l.from) + 1
