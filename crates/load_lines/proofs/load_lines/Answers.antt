-- `load_lines` meets its contract: the first line, then the others.
use Rattle.std.proofs.Common.{sym}
use Rattle.format.specs.Print.{header}
use Rattle.format.specs.Text.{ascii}
use Rattle.load_lines.proofs.Rest.{no_header, with_header}
use Rattle.load_lines.proofs.load_lines.Goals as goal

pub returns-in_default : goal.returns-in_default
unfolding header ascii
returns-in_default c = rw c.at.ensures (no_header _ _ (sym c.in_default.ensures))

pub returns : goal.returns
unfolding header ascii
returns c = with_header _ _ _ _ _ (sym c.in-Some.ensures) c.load_rest.ensures
