-- The bytes of a row.
use Rattle.std.specs.Prelude.{ℕ, List, [], ◌∷◌, get_or}

-- how many bytes a row of each kind uses: no kind; a result; unit, chan, send, recv, pair, left, right, fun, spawn, sync, first, second, case, apply
abbrev pub used : List ℕ
used = 0 ∷ 2 ∷ 3 ∷ 3 ∷ 5 ∷ 4 ∷ 5 ∷ 4 ∷ 4 ∷ 6 ∷ 4 ∷ 4 ∷ 4 ∷ 4 ∷ 8 ∷ 5 ∷ []

unfoldable pub used_bytes : ℕ → ℕ
used_bytes k = get_or used k 0
