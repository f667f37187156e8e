-- What reading a whole file answers: what has been read, or the first line that fails and why.
use Rattle.std.specs.Prelude.{Result}
use Rattle.format.specs.declared.Refusal.{Refusal}
use Rattle.progress.specs.declared.Progress.{Progress}

abbrev pub FileRead : Type 0
FileRead = Result Progress Refusal
