-- A move, one find after the other.
use Rattle.std.specs.Prelude.{Option, None as none, Some as some}
use mathlib.Core.Path.{◌≡◌, refl}
use lib.Dec.{eqb}
use Rattle.program.specs.Maybe.{◌>>=◌, given}
use Rattle.program.specs.Program.{Program, bind_at}
use Rattle.machine.specs.declared.Held.{Held}
use Rattle.machine.specs.declared.Kept.TheVariants.{Keeps}
use Rattle.machine.specs.Machine.{Machine, thread_at, change, changed, changed_all, go_on, offers, awaits, Order, alone, together, both_go_on, meeting, changes, moved}

module _ (p : Program) where
  unfoldable pub flat : Machine → Order → Option Machine
  flat m (alone n) = do
    t ← thread_at m.threads n
    c ← change p m.memory t
    some (changed m n c)
  flat m (together sender receiver) = do
    s ← thread_at m.threads sender
    r ← thread_at m.threads receiver
    b ← bind_at p s.row
    d ← bind_at p r.row
    (i, v) ← offers p m.memory s
    j ← awaits p m.memory r
    _ ← given (eqb i j)
    let after = changed m receiver (go_on m.memory r d (Keeps v)) in
        some (changed after sender (go_on after.memory s b (Keeps Held.Unit)))

-- finds inside of finds, one after the other
record Flattens {B C : Type 0} (o : Option B) (g : B → Option C) (q : Option C) : Type 0 where
  same : o >>= g ≡ q

inner : {A B C : Type 0} (o : Option A) {f : A → Option B} {g : B → Option C} {h : A → Option C} → ((a : A) → Flattens (f a) g (h a)) → Flattens (o >>= f) g (o >>= h)
unfolding ◌>>=◌
inner none e = record { same = refl }
inner (some a) e = e a

-- the same where what is found is used in two steps
record FlattensTwice {D B C : Type 0} (o : Option D) (k : D → Option B) (g : B → Option C) (q : Option C) : Type 0 where
  same : o >>= k >>= g ≡ q

deeper : {A D B C : Type 0} (o : Option A) {f : A → Option D} {k : D → Option B} {g : B → Option C} {h : A → Option C} → ((a : A) → FlattensTwice (f a) k g (h a)) → FlattensTwice (o >>= f) k g (o >>= h)
unfolding ◌>>=◌
deeper none e = record { same = refl }
deeper (some a) e = e a

deepest : {D B C : Type 0} (d : D) (k : D → Option B) (g : B → Option C) → FlattensTwice (some d) k g (k d >>= g)
unfolding ◌>>=◌
deepest d k g = record { same = refl }

last : {B C : Type 0} (b : B) (g : B → Option C) → Flattens (some b) g (g b)
unfolding ◌>>=◌
last b g = record { same = refl }

module _ (p : Program) (m : Machine) where
  pub flat-moved : (o : Order) → moved p m o ≡ flat p m o
  unfolding moved changes meeting both_go_on flat changed_all changed ◌>>=◌
  flat-moved (alone n) = (inner (thread_at m.threads n) λ t. inner (change p m.memory t) λ c. last _ _).same
  flat-moved (together sender receiver) =
      (inner (thread_at m.threads sender) λ s.
      inner (thread_at m.threads receiver) λ r.
      record {
        same =
            (deeper (bind_at p s.row) λ b.
            deeper (bind_at p r.row) λ d.
            deeper (offers p m.memory s) λ (i, v).
            deeper (awaits p m.memory r) λ j.
            deeper (given (eqb i j)) λ _. deepest _ _ _).same;
      }).same
