-- `lies_in` meets its contract: too few bytes are the empty set, which has the bytes 0; what lies in a set with all its members does with fewer.
use Rattle.std.proofs.Common.{arith, sym, ◌∙◌}
use Rattle.calls.specs.Layout.{member_limit}
use Rattle.store.proofs.Laws.{zeros_at}
use Rattle.sets.proofs.Members.{within_short, within_lies, within_fewer}
use Rattle.sets.proofs.lies_in.Goals as goal

pub returns-then-b-lt-MEMBERS : goal.returns-then-b-lt-MEMBERS
returns-then-b-lt-MEMBERS c = c.within.ensures ∙ within_short _ _ _ _ c.if-a-lt-MEMBERS.false c.if-b-lt-MEMBERS.true (zeros_at member_limit)

pub returns-then-within : goal.returns-then-within
returns-then-within c = c.if-within.true ∙ sym (sym (within_lies _ _ _ c.if-a-lt-MEMBERS.false c.if-b-lt-MEMBERS.false) ∙ within_fewer _ member_limit _ _ (omega arith) (sym c.within-2.ensures ∙ c.if-within.true))
