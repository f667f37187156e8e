-- No number before this one is above the limit.
use Rattle.std.specs.Prelude.{◌≡◌, drop}
use Rattle.raw_rows.specs.Raw.{numbers_above}
use Rattle.raw_rows.proofs.numbers_above.Given as goal

abbrev pub invariant-loop-n : goal.invariant-loop-n
invariant-loop-n l = numbers_above (drop l.n-index l.numbers) ≡ numbers_above l.numbers
