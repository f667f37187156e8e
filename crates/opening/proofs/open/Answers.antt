-- `open` meets its contract: 20, then what its fixed size gives.
use Rattle.opening.proofs.Opening.{fixed-opened}
use Rattle.opening.proofs.open.Goals as goal

pub returns : goal.returns
returns c = fixed-opened _ _ c.if-store-lt-SIZE.false c.open_fixed.ensures
