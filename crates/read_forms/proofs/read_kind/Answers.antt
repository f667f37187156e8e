-- Each call tries one word more, so the last answer is that of all the words (`Words.tried_all`).
use Rattle.format.specs.Read.{form_words}
use Rattle.format.specs.Text.{ascii}
use Rattle.read_forms.proofs.Words.{tried_all, word, end}
use Rattle.read_forms.proofs.read_kind.Goals as goal

pub returns : goal.returns
unfolding ascii form_words
returns c =
    tried_all _ _ (word c.or_word-unit.ensures
    (word c.or_word-chan.ensures (word c.or_word-send.ensures
    (word c.or_word-recv.ensures
    (word c.or_word-pair.ensures (word c.or_word-left.ensures
    (word c.or_word-right.ensures
    (word c.or_word-fun.ensures
    (word c.or_word-spawn.ensures (word c.or_word-sync.ensures
    (word c.or_word-first.ensures
    (word c.or_word-second.ensures
    (word c.or_word-case.ensures (word c.or_word.ensures end))))))))))))))
