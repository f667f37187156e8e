-- What a form asks of each row in a set.
use Rattle.std.proofs.Common.{ℕ, ◌+◌, Bool, true, ◌≡◌}
use native.Mathlib.Numerals.{add-one}
use Rattle.program.specs.Test.{◌⇒◌, all}
use Rattle.program.specs.Flow.{row, Set, for_each}
use Rattle.format.specs.Text.{Bytes}
use Rattle.store.specs.Rows.{store_program}
use Rattle.store.proofs.Laws.{program_length}

-- one number more that passes
pub all_more : (k : ℕ) (f : ℕ → Bool) → all k f ≡ true → f k ≡ true → all (k + 1) f ≡ true
unfolding all
all_more k f h e = rw (add-one, e, h)

-- of the rows in a set, the same set as bytes
pub each_at : (n : ℕ) (s : Bytes) (f : ℕ → Bool) {c d : Set} → d ≡ c → all n (λ r. d (row r) ⇒ f r) ≡ for_each (store_program n s) c f
unfolding for_each
each_at n s f e = rw (program_length n s, e)
