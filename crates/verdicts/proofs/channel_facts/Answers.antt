use Rattle.place_marks.specs.Places.{kind_on}
use Rattle.verdicts.proofs.Wording.{channel_facts}
use Rattle.verdicts.proofs.channel_facts.Goals as goal

pub places-sent-requires-clause-lists : goal.places-sent-requires-clause-lists
unfolding kind_on
places-sent-requires-clause-lists c = c.requires.sending

pub places-received-requires-clause-lists : goal.places-received-requires-clause-lists
unfolding kind_on
places-received-requires-clause-lists c = c.requires.receiving

pub returns : goal.returns
returns c = channel_facts _ _ _ _ c.requires.few c.requires.shows c.requires.reached c.places-sent.ensures c.places-received.ensures c.facts.ensures
