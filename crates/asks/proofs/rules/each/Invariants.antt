-- The loop's invariant: each row before k that is in the set passes.
use Rattle.std.proofs.Common.{ℕ, ◌<◌, ◌≡◌, Bool, true}
use Rattle.program.specs.Test.{◌⇒◌, all}
use Rattle.program.specs.Flow.{row}
use Rattle.sets.specs.Sets.{set_of}
use Rattle.asks.proofs.rules.each.Given as goal

abbrev pub invariant-loop-k : goal.invariant-loop-k
invariant-loop-k g l = (f : ℕ → Bool) → ((j : ℕ) (b : Bool) → j < l.rows → g.F.Fn.post l.passes (j, tt) b → b ≡ f j) → all l.k (λ r. set_of l.set (row r) ⇒ f r) ≡ true
