-- The values of what an accepted call has.
use Rattle.std.specs.Prelude.{ℕ, List, [], ◌∷◌}
use Rattle.calls.specs.declared.Counts.{Counts}

abbrev pub count_values : Counts → List ℕ
count_values c = c.rows ∷ c.flows ∷ c.comms ∷ c.claims ∷ []

abbrev pub one_value : ℕ → List ℕ
one_value n = n ∷ []
