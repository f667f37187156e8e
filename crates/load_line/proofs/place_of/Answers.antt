use Rattle.load_line.proofs.Keeps.{place_is}
use Rattle.load_line.proofs.place_of.Goals as goal

pub returns : goal.returns
returns c = rw c.start.ensures.is (place_is _ _)
