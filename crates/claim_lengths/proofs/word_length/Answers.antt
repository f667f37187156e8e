-- In each arm the text of the word computes.
use Rattle.format.specs.Text.{ascii}
use Rattle.format.specs.Print.{word_text}
use Rattle.claim_lengths.proofs.word_length.Goals as goal

pub returns-in-OneShot : goal.returns-in-OneShot
unfolding ascii word_text
returns-in-OneShot c = rw c.in-OneShot.is

pub returns-in-OneToOne : goal.returns-in-OneToOne
unfolding ascii word_text
returns-in-OneToOne c = rw c.in-OneToOne.is

pub returns-in-FanOut : goal.returns-in-FanOut
unfolding ascii word_text
returns-in-FanOut c = rw c.in-FanOut.is

pub returns-in-FanIn : goal.returns-in-FanIn
unfolding ascii word_text
returns-in-FanIn c = rw c.in-FanIn.is

pub returns-in-Many : goal.returns-in-Many
unfolding ascii word_text
returns-in-Many c = rw c.in-Many.is

pub returns-in-OneSync : goal.returns-in-OneSync
unfolding ascii word_text
returns-in-OneSync c = rw c.in-OneSync.is
