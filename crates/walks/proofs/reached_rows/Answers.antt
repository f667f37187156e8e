use native.Mathlib.Omega.{arith}
use mathlib.Core.Path.{◌≡◌}
use Rattle.walks.proofs.Walking.{marked_first}
use Rattle.walks.proofs.reached_rows.Goals as goal

pub returns : goal.returns
returns c =
    let all : c.loop-r.r ≡ c.args.rows = omega (arith, c.loop-r-test.false, c.loop-r.auto.r-end) in
    marked_first _ (rw all at c.loop-r.invariant)
