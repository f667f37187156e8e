-- Words tried one after the other: the first that stands is found.
use Prim.Native.Nat.{ℕ}
use Prim.Native.String.{String}
use mathlib.Core.List.{List, [], ◌∷◌}
use Rattle.std.specs.Prelude.{Option, None as none, Some as some}
use mathlib.Core.Path.{◌≡◌, refl, ◌∙◌}
use Rattle.program.specs.Maybe.{◌<|>◌}
use Rattle.format.specs.Text.{Bytes, ascii, expect, one_of}
use Rattle.read_forms.specs.Reads.{then_word}

-- from an answer, these words have been tried in turn, and gave another
pub data Tried (s : Bytes) (at : ℕ) : Option (ℕ × ℕ) → List (String × ℕ) → Option (ℕ × ℕ) → Type 0 where
  end : {o : Option (ℕ × ℕ)} → Tried s at o [] o
  word : {w : String × ℕ} {ws : List (String × ℕ)} {o r x : Option (ℕ × ℕ)} → r ≡ then_word o (ascii w.0) w.1 s at → Tried s at r ws x → Tried s at o (w ∷ ws) x

module _ (s : Bytes) (at : ℕ) where
  nothing_else : (o : Option (ℕ × ℕ)) → o ≡ (o <|> none)
  unfolding ◌<|>◌
  nothing_else none = refl
  nothing_else (some y) = refl

  one_more : (w : String × ℕ) (ws : List (String × ℕ)) (o : Option (ℕ × ℕ)) → (then_word o (ascii w.0) w.1 s at <|> one_of ws s at) ≡ (o <|> one_of (w ∷ ws) s at)
  unfolding then_word one_of ◌<|>◌
  one_more w ws (some y) = refl
  one_more w ws none = go (expect (ascii w.0) s at)
    where
      go : (e : Option ℕ)
          → (elim e as (λ e. Option (ℕ × ℕ)) [ some next ↦ some (w.1, next) | none ↦ none ] <|> one_of ws s at)
          ≡ elim e as (λ e. Option (ℕ × ℕ)) [ some next ↦ some (w.1, next) | none ↦ one_of ws s at ]
      go none = refl
      go (some next) = refl

  tried_is : {o x : Option (ℕ × ℕ)} {ws : List (String × ℕ)} → Tried s at o ws x → x ≡ (o <|> one_of ws s at)
  unfolding one_of
  tried_is (end {o = o}) = nothing_else o
  tried_is (word {w = w} {ws = ws} {o = o} e t) = tried_is t ∙ rw e (one_more w ws o)

  pub tried_all : {x : Option (ℕ × ℕ)} {ws : List (String × ℕ)} → Tried s at none ws x → x ≡ one_of ws s at
  unfolding ◌<|>◌
  tried_all t = tried_is t
