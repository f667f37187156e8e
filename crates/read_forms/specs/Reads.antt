-- What the answers of the reading functions say, in the terms of the format's definitions.
use Rattle.std.specs.Prelude.{ℕ, Bool, false, List, [], ◌∷◌, ◌≡◌, get_or, eqb}
use Rattle.std.specs.Prelude.{Option, None as none, Some as some}
use Rattle.program.specs.declared.Form.{Form}
use Rattle.program.specs.Maybe.{◌>>=◌}
use Rattle.format.specs.Text.{Bytes, expect, read_arguments}
use Rattle.format.specs.Forms.{form_of}
use Rattle.read_forms.specs.declared.RawForm.{RawForm}

-- what is found already, or else a word at a position, with its code
unfoldable pub then_word : Option (ℕ × ℕ) → Bytes → ℕ → Bytes → ℕ → Option (ℕ × ℕ)
then_word (some x) word k s at = some x
then_word none word k s at = elim (expect word s at) [ some next ↦ some (k, next) | none ↦ none ]

-- the first five numbers, 0 past the end
unfoldable pub numbers_of : List ℕ → List ℕ
numbers_of ns = get_or ns 0 0 ∷ get_or ns 1 0 ∷ get_or ns 2 0 ∷ get_or ns 3 0 ∷ get_or ns 4 0 ∷ []

-- k numbers, each with a space before it, of which the first five are kept
unfoldable pub read_numbers : ℕ → Bytes → ℕ → Option (List ℕ × ℕ)
read_numbers k s at = do
  (ns, p) ← read_arguments k s at
  some (numbers_of ns, p)

-- the form of a form as read
abbrev pub raw_form : RawForm → Form
raw_form f = form_of f.kind f.numbers

abbrev pub form_read : Option (RawForm × ℕ) → Option (Form × ℕ)
form_read (some (f, past)) = some (raw_form f, past)
form_read none = none

-- whether the code is that of a result, which no form has
abbrev pub result_code : Option (RawForm × ℕ) → Bool
result_code (some (f, past)) = eqb f.kind 1
result_code none = false

pub record FormIs (read : Option (Form × ℕ)) (r : Option (RawForm × ℕ)) : Type 0 where
  pub reads : form_read r ≡ read
  pub no_result : result_code r ≡ false
