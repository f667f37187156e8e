-- The loop's invariant: of the text, the numbers not yet written are left.
use lib.ListN.{drop}
use Rattle.format.specs.Text.{arguments}
use Rattle.write_bytes.proofs.Progress.{Progress}
use Rattle.write_forms.proofs.put_arguments.Given as goal

abbrev pub invariant-loop-n : goal.invariant-loop-n
invariant-loop-n l = Progress l.initial.out l.at (arguments l.numbers) l.out l.next (arguments (drop l.n-index l.numbers))
