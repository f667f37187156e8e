-- What counting a place off a value by subtraction leaves.
use Rattle.std.specs.Prelude.{ℕ, ◌+◌, ◌*◌, ◌<◌, ◌≡◌}

-- the place p went so many times into the value n, and the rest is less than one more
pub record CountedOff (n p count rest : ℕ) : Type 0 where
  pub whole : n ≡ count * p + rest
  pub below : rest < p
