-- What is asked of the rows that a row points at.
use Rattle.std.specs.Prelude.{ℕ, Bool, false, not, ◌&&◌, ◌||◌, List, [], ◌∷◌, ltb}

-- of n rows, row r may not point at row t: it is absent or not greater
abbrev pub stray : ℕ → ℕ → ℕ → Bool
stray n r t = not (ltb r t && ltb t n)

unfoldable pub strays : ℕ → ℕ → List ℕ → Bool
strays n r [] = false
strays n r (t ∷ ts) = stray n r t || strays n r ts
