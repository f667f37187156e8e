-- What the numbers from here on give, put behind those that have been read, is what all give.
use Rattle.std.specs.Prelude.{◌≡◌, ◌-◌, length}
use Rattle.read_forms.specs.Reads.{read_numbers}
use Rattle.read_forms.proofs.Forms.{more}
use Rattle.read_forms.proofs.read_numbers.Given as goal

abbrev pub invariant-loop-i : goal.invariant-loop-i
invariant-loop-i l = more l.s (l.count - l.i) l.i l.numbers l.next ≡ read_numbers l.count l.s l.at
