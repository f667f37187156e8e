-- The loop's invariant: of the length, that of the numbers not yet counted is left.
use lib.ListN.{length, drop}
use Rattle.format.specs.Text.{arguments}
use Rattle.number_lengths.proofs.Sums.{Counted}
use Rattle.row_lengths.proofs.arguments_length.Given as goal

abbrev pub invariant-loop-n : goal.invariant-loop-n
invariant-loop-n l = Counted (length (arguments l.numbers)) l.total (length (arguments (drop l.n-index l.numbers)))
