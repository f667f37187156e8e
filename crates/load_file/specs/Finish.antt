-- What load promises: the answer and the lent bytes are those that a definition gives.
use Rattle.std.proofs.Math.Bool.{So}
use Rattle.format.specs.Text.{Bytes}
use Rattle.format.specs.Document.{Document}
use Rattle.format.specs.Refusals.{accepted}
use Rattle.format.specs.Check.{check_structure}
use Rattle.format.specs.WellFormed.{orderly}
use Rattle.calls.specs.Answers.{LoadAnswer}
use Rattle.calls.specs.Calls.{Leaves, loaded}
use Rattle.progress.specs.declared.Progress.{Progress}
use Rattle.progress.specs.Progress.{Matches}
use Rattle.load_line.specs.Line.{Stored}

-- what is left to do behind a file's last line: of a document that has been read into the store, refusals 6 to 9
pub record Finishes (p : Progress) (store : Bytes) (answer : LoadAnswer) (left : Bytes) : Type 0 where
  pub finishes : (d : Document) → So (orderly d) → Stored store d → Matches d p → Leaves (loaded store (check_structure (accepted d))) answer left
