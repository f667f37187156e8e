-- `put_member` meets its contract: the member is put in, or it is there.
use Rattle.set_adds.proofs.Adding.{put_new}
use Rattle.set_adds.proofs.put_member.Goals as goal

pub returns-then-missing : goal.returns-then-missing
returns-then-missing c = rw c.if-missing.true (put_new _ _ _ c.requires.0 c.requires.1 c.requires.2 c.if-missing.true)
