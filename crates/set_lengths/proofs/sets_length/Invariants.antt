-- The loop's invariant: of the length, that of the lines of the sets from n on is left. A set whose key is not marked has no line.
use Rattle.number_lengths.proofs.Sums.{Counted}
use Rattle.set_lengths.proofs.Lines.{lines_from}
use Rattle.set_lengths.proofs.sets_length.Given as goal

abbrev pub invariant-loop-n : goal.invariant-loop-n
invariant-loop-n l = Counted (lines_from l.word l.sets 0) l.total (lines_from l.word l.sets l.n)
