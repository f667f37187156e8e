-- Before each round the store is that of a document, and what is left to read decides the file.
use Rattle.std.specs.Prelude.{◌-◌}
use Rattle.load_lines.proofs.Rest.{Reading}
use Rattle.load_lines.proofs.load_rest.Given as goal

abbrev pub invariant-loop-line : goal.invariant-loop-line
invariant-loop-line l = Reading l.file l.start l.initial.store l.store l.at l.line l.p (l.end - l.line)
