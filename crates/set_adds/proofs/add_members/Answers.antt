-- `add_members` meets its contract: a set of bytes is joined to the name's.
use native.Mathlib.Omega.{arith}
use Rattle.set_adds.specs.declared.Variable.{Variable}
use Rattle.set_adds.specs.Adding.{set_at, number_of}
use Rattle.set_adds.proofs.Adding.{set_adds}
use Rattle.set_adds.proofs.Variables.{before_claims}
use Rattle.set_adds.proofs.add_members.Goals as goal

pub position-requires : goal.position-requires
unfolding number_of
position-requires c = c.requires.store_size_in_bounds.2

pub join_set-requires : goal.join_set-requires
unfolding number_of
join_set-requires c =
    (omega (arith, c.requires.member_limit_in_bounds.0), rw c.position.ensures (omega (arith, c.requires.store_size_in_bounds.0, before_claims (Variable.Name c.args.n) c.requires.store_size_in_bounds.2)))

pub returns : goal.returns
unfolding set_at number_of
returns c =
    set_adds _ (Variable.Name c.args.n) _ _ _ _ c.requires.store_size_in_bounds.1 c.requires.store_size_in_bounds.2 c.requires.member_limit_in_bounds.0 c.requires.member_limit_in_bounds.1
    (rw c.position.ensures at c.join_set.ensures)
