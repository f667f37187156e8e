-- `both_add` meets its contract: one set, then the other.
use native.Mathlib.Omega.{arith}
use Rattle.program.specs.Flow.{lies}
use Rattle.set_adds.specs.Adding.{set_at, number_of}
use Rattle.set_adds.proofs.Adding.{adds_after}
use Rattle.rule_adds.proofs.both_add.Goals as goal

pub add_set-one-requires : goal.add_set-one-requires
unfolding number_of
add_set-one-requires c = record { store_size_in_bounds = (c.requires.0, c.requires.1); from_bound = (c.requires.2, c.requires.3) }

pub add_set-two-requires : goal.add_set-two-requires
unfolding number_of
add_set-two-requires c = record { store_size_in_bounds = (omega (arith, c.add_set-one.ensures.size), c.requires.1); from_bound = (c.requires.4, c.requires.5) }

pub returns : goal.returns
unfolding set_at
returns c =
    adds_after _ (λ p flow comm. lies p (flow c.args.b) (flow c.args.n)) c.requires.1 c.add_set-one.ensures
    c.add_set-two.ensures
