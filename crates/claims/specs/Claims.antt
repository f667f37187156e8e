-- The claims of a store in turn: what each says, and the first that fails.
use Rattle.std.specs.Prelude.{ℕ, ◌+◌, Bool, List, [], ◌∷◌, take, drop, Result, Ok, Err}
use Rattle.program.specs.Test.{pick}
use Rattle.program.specs.Program.{Program}
use Rattle.program.specs.Flow.{Table}
use Rattle.format.specs.declared.Reason.TheVariants.{ClaimFails}
use Rattle.format.specs.Limits.{row_limit}
use Rattle.format.specs.Refusals.{refusal}
use Rattle.format.specs.Text.{Bytes}
use Rattle.format.specs.Document.{Claim}
use Rattle.calls.specs.Answers.{JudgeAnswer}
use Rattle.calls.specs.Layout.{claims_start, decode_claims}
use Rattle.verdicts.specs.Words.{word_in}

-- what a claim says of a program with its table
unfoldable pub claim_in : Program → Table → Claim → Bool
claim_in p flow k = word_in p flow k.channel k.word

-- the claims of a store
abbrev pub store_claims : Bytes → List Claim
store_claims s = decode_claims 0 (take row_limit (drop claims_start s))

-- how the claims fare: how many there are, if all hold, or how many hold before the first that fails
abbrev pub Held : Type 0
Held = Result ℕ ℕ

-- claims that hold are counted up to the first that fails
unfoldable pub claims_held : (Claim → Bool) → ℕ → List Claim → Held
claims_held ok held [] = Ok held
claims_held ok held (k ∷ ks) = pick (ok k) (claims_held ok (held + 1) ks) (Err held)

unfoldable pub holding : Held → ℕ
holding (Ok k) = k
holding (Err k) = k

-- what judge answers: their count, or 11 at the line of the first that fails, where the first of all has a line
unfoldable pub judged_at : ℕ → Held → JudgeAnswer
judged_at line (Ok k) = Ok k
judged_at line (Err k) = Err (refusal ClaimFails (line + k))
