use native.Mathlib.Omega.{arith}
use mathlib.Core.Path.{◌≡◌, ◌∙◌, ap}
use Rattle.program.specs.Program.{name_of}
use Rattle.asks.specs.Asks.{Names}
use Rattle.asks.proofs.Results.{filled_none, filled_more, names_filled, result_named}
use Rattle.asks.proofs.rows.result_names.Goals as goal

pub loop-t-init : goal.loop-t-init
loop-t-init c = (omega arith, filled_none _)

pub loop-t-preserved : goal.loop-t-preserved
loop-t-preserved c = (omega arith, filled_more _ (omega arith) c.loop-t.invariant.1 (c.name_of.ensures ∙ ap name_of c.row_in.ensures ∙ result_named _ _ (omega arith) c.result_rows-results.ensures))

pub returns : goal.returns
unfolding Names
returns c = let q : c.loop-t.t ≡ c.args.rows = omega arith in names_filled _ _ (rw q at c.loop-t.invariant.1)
