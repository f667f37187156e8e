-- The loop's invariant: the bytes of the word before b are written.
use lib.ListN.{take}
use Rattle.write_bytes.specs.Write.{Wrote}
use Rattle.write_bytes.proofs.put_word.Given as goal

abbrev pub invariant-loop-b : goal.invariant-loop-b
invariant-loop-b l = Wrote l.initial.out l.at (take l.b-index l.word) l.next l.out
