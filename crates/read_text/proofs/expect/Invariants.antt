-- The rest of the word, from here, finds what the whole word finds from the start.
use Rattle.std.specs.Prelude.{◌≡◌, drop}
use Rattle.format.specs.Text.{expect}
use Rattle.read_text.proofs.expect.Given as goal

abbrev pub invariant-loop-w : goal.invariant-loop-w
invariant-loop-w l = expect (drop l.w-index l.word) l.s l.next ≡ expect l.word l.s l.at
