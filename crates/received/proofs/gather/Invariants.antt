-- The loop's invariant: what the rows below k give is gathered. The measure is the number of rows left.
use Rattle.std.proofs.Common.{ℕ, ◌-◌, ◌<◌, ◌≤◌, ◌≡◌, false}
use Rattle.program.specs.Flow.{Abstract, row, Set}
use Rattle.sets.specs.Sets.{set_of}
use Rattle.received.specs.Received.{Gathered, Gives}
use Rattle.received.proofs.gather.Given as goal

abbrev pub invariant-loop-k : goal.invariant-loop-k
invariant-loop-k g l =
    (l.k ≤ l.rows)
    × ((f : ℕ → Set) → ((k : ℕ) → set_of l.among (row k) ≡ false → (a : Abstract) → f k a ≡ false) → ((k : ℕ) (o : _) → k < l.rows → g.F.Fn.post l.given (k, tt) o → Gives (f k) o) → Gathered l.k f l.set)

abbrev pub decreases-loop-k : goal.decreases-loop-k
decreases-loop-k g l = l.rows - l.k
