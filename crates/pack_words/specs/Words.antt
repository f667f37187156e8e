-- The values of the five words.
use Rattle.std.specs.Prelude.{ℕ, List, map}
use Rattle.calls.specs.Answers.{yes_or_no}
use Rattle.pack_words.specs.declared.Given.{Given}

abbrev pub word_values : Given → List ℕ
word_values w = map yes_or_no w.words
