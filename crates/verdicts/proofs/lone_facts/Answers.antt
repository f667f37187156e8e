-- Nothing is found where there are no places, else what is found by a grid of its own.
use mathlib.Core.Path.{refl}
use Rattle.grids.proofs.Keeping.{zeros_show}
use Rattle.place_marks.specs.Places.{kind_on}
use Rattle.verdicts.proofs.Wording.{channel_facts}
use Rattle.verdicts.proofs.lone_facts.Goals as goal

pub places-sent-requires-clause-lists : goal.places-sent-requires-clause-lists
unfolding kind_on
places-sent-requires-clause-lists c = rw c.rows.ensures c.listed-sends.ensures

pub places-received-requires-clause-lists : goal.places-received-requires-clause-lists
unfolding kind_on
places-received-requires-clause-lists c = rw c.rows-3.ensures c.listed-receives.ensures

pub fill_reach-requires-clause-shows : goal.fill_reach-requires-clause-shows
fill_reach-requires-clause-shows c = zeros_show _ refl

pub returns : goal.returns
returns c = channel_facts _ _ _ _ c.requires c.fill_reach.ensures.shows c.reached_rows-comes.ensures c.places-sent.ensures c.places-received.ensures c.facts.ensures
