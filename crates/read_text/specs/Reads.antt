-- Which words are looked for.
use Rattle.std.specs.Prelude.{Bool, true, ◌&&◌, [], ◌∷◌, ltb}
use Rattle.format.specs.Text.{Bytes}

-- no byte of the word is 0: an abbreviation, so that it computes where a caller's word is a literal
abbrev pub no_zero : Bytes → Bool
no_zero [] = true
no_zero (b ∷ bs) = ltb 0 b && no_zero bs
