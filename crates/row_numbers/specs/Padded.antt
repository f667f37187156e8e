-- The three bytes of few numbers: the numbers, and 0 behind them.
use Rattle.std.specs.Prelude.{ℕ, List, [], ◌∷◌, ◌++◌, take}

abbrev pub padded : List ℕ → List ℕ
padded ns = take 3 (ns ++ 0 ∷ 0 ∷ 0 ∷ [])
