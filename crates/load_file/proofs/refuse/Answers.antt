-- A cleared store is what a refusal leaves (`Files.emptied`).
use Rattle.load_file.proofs.Files.{emptied}
use Rattle.load_file.proofs.refuse.Goals as goal

pub returns : goal.returns
returns c = rw c.clear.ensures (emptied _ _)
