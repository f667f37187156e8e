-- The word at the place of the kind (`word_there`).
use Rattle.format.specs.Text.{ascii}
use Rattle.write_forms.proofs.Words.{word_there}
use Rattle.write_forms.proofs.kind_word.Goals as goal

pub returns : goal.returns
unfolding ascii
returns c = word_there _ _ _ _ _ _ _ _ _ _ _ _ _ _ _ _ _ c.form_place.ensures
