-- The bytes of the set are put in their place, and those that stood there come out.
use Rattle.std.proofs.Common.{ℕ, ◌≡◌, ◌+◌, ◌-◌, ◌∙◌, refl, ap, arith, take, drop, length}
use Rattle.store.proofs.Laws.{placed}
use Rattle.handed_sets.proofs.swap_set.Goals as goal

pub returns : goal.returns
returns c =
    let n = length c.args.set.now in
    let at = c.args.at in
    let store = c.args.store.now in
    let part : at + n - at ≡ n = omega arith in
    record {
      store_after = rw c.swap_with_slice.ensures.after (placed at (at + n) store c.args.set.now refl c.requires);
      set_after = c.swap_with_slice.ensures.other_after ∙ ap (λ (k : ℕ). take k (drop at store)) part;
    }
