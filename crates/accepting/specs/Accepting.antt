-- Loading and judging a file at once, and what an accepted file's runs do.
use Rattle.std.specs.Prelude.{Ok, Err}
use Rattle.std.specs.Prelude.{ℕ, List, [], ◌∷◌, ◌≡◌}
use Rattle.std.proofs.Math.Bool.{So}
use Rattle.std.specs.Prelude.{Some as some}
use Rattle.program.specs.Each.{Member}
use Rattle.program.specs.Program.{chan_at}
use Rattle.program.specs.Run.{Path, made, Step, run}
use Rattle.program.specs.History.{HistoryFits}
use Rattle.format.specs.Text.{Bytes}
use Rattle.format.specs.Document.{Claim, Document}
use Rattle.format.specs.Print.{document_text}
use Rattle.format.specs.WellFormed.{well_formed}
use Rattle.calls.specs.Answers.{LoadAnswer}
use Rattle.calls.specs.Answers.{JudgeAnswer}
use Rattle.calls.specs.Answers.{answered, judge_answer}
use Rattle.calls.specs.Calls.{load, judge}

-- demand 3 of a document: "after every list of steps by the run rules from the start .. on every instance of a claimed channel, the sends and receives .. fit the claimed topology"
unfoldable pub ClaimsFit : Document → Type 0
ClaimsFit d =
    (k : Claim) → Member k d.claims → (name : ℕ) → chan_at d.rows k.channel ≡ some name
    → (steps : List Step) (maker : Path) → HistoryFits d.rows (run d.rows steps) (made maker name) k.word

-- and of a file: it is the text of a well-formed document of which that holds
unfoldable pub SoundFile : Bytes → Type 0
SoundFile file = (d : Document) × (file ≡ document_text d) × So (well_formed d) × ClaimsFit d

-- judge, of the store as load left it, where load took the file
unfoldable pub judged_after : LoadAnswer → Bytes → JudgeAnswer
judged_after (Err r) left = Err r
judged_after (Ok c) left = judge left

-- the answer and the lent bytes are those of load and judge in turn; where the file is accepted, demand 3 holds of it
pub record Accepts (file store : Bytes) (answer : JudgeAnswer) (left : Bytes) : Type 0 where
  pub answer_is : answer ≡ judged_after (load file store).answer (load file store).bytes
  pub bytes_are : left ≡ (load file store).bytes
  pub sound : (n : ℕ) → judge_answer answer ≡ answered (n ∷ []) → SoundFile file
