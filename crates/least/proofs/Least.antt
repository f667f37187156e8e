-- The smallest tables of a program: they keep every flow rule, they lie in all tables that do, and no other tables do both. They hold only what tables may hold.
use Prim.Native.Nat.{ℕ, zero, suc, ◌<◌, ◌≤◌}
use native.Mathlib.Omega.{arith}
use native.Mathlib.Decide.{ℕ_discrete}
use mathlib.Core.Bool.{Bool, true, false, not, So, false≢true}
use mathlib.Core.List.{List, [], ◌∷◌, ◌++◌, map}
use Rattle.std.specs.Prelude.{Some as some}
use mathlib.Core.Path.{◌≡◌, refl, ap, fun_ext}
use mathlib.Core.Logic.{⊎_elim}
use lib.ListN.{length}
use lib.Dec.{ltb, eqb}
use borrow.Author.Tests.{ltb-true, ltb-false, eqb-true}
use Rattle.program.specs.Each.{Member, here, there, Each, nil, collect, elem}
use Rattle.program.specs.Program.{Program, binders, bind_at, form_at, chan_at, chan_of, is_value, value_row, chan_row}
use Rattle.program.specs.Flow.{Abstract, Abstract-discrete, u, row, Set, Table}
use Rattle.program.specs.FlowRule.{Lies, KeepsAll}
use Rattle.least.specs.Least.{Within, among, Variable, Variable-discrete, name, channel, Constraint, holds, lies, gather, Sets, both_tables, Membership, same_membership, asks_for}
use Rattle.least.specs.Least.{all_constraints, variable_allowed, member_allowed, widest, memberships, without, stays_out, rounds, smallest, smallest_flow, smallest_comm}
use Rattle.program.proofs.Each.{each_at, each_imp, each_both, each_member}
use Rattle.program.proofs.Maybe.{has_elim, bind_elim}
use Rattle.program.proofs.Sound.Shape.{bind_bound, member_left, member_right}
use Rattle.program.proofs.Test.{and_left, and_right, and_intro, not_elim, not_intro, or_cases, test_elim, test_intro, below, same_tests}
use Rattle.least.proofs.Lists.{among_elim, among_intro, those_member, those_all}
use Rattle.least.proofs.Constraints.{gather_iff, found_iff, Kept, constraints_iff, constraints_less}
use Rattle.least.proofs.Widest.{widest_flow, widest_comm, widest_keeps}

-- ---- memberships

membership_same : (x y : Membership) → So (same_membership x y) → x ≡ y
unfolding same_membership
membership_same (q, a) (s, b) t =
    let e : q ≡ s = test_elim (Variable-discrete ℕ_discrete q s) (search and_left) in
    let k : a ≡ b = test_elim (Abstract-discrete ℕ_discrete a b) (search and_right) in
    rw (e, k)

same_membership_lem : (x : Membership) → So (same_membership x x)
unfolding same_membership
same_membership_lem (q, a) = and_intro (test_intro (Variable-discrete ℕ_discrete q q) refl) (test_intro (Abstract-discrete ℕ_discrete a a) refl)

gather_member : {A : Type 0} {a : A} (n : ℕ) (f : ℕ → List A) (i : ℕ) → i < n → Member a (f i) → Member a (gather n f)
unfolding gather
gather_member zero f i l m = absurd (omega arith)
gather_member (suc n) f i l m = ⊎_elim (λ e. member_right (gather n f) (rw e at m)) (λ k. member_left (f n) (gather_member n f i k m)) (below n i l)

map_member : {A B : Type 0} {a : A} (f : A → B) {xs : List A} → Member a xs → Member (f a) (map f xs)
map_member f (here e) = here (ap f e)
map_member f (there m) = there (map_member f m)

collect_member : {A B : Type 0} {a : A} {b : B} (f : A → List B) {xs : List A} → Member a xs → Member b (f a) → Member b (collect f xs)
unfolding collect
collect_member f (here {xs = xs} e) m = member_left (collect f xs) (rw e at m)
collect_member f (there {x = x} k) m = member_right (f x) (collect_member f k m)

pub elem_member : (n : ℕ) (xs : List ℕ) → So (elem n xs) → Member n xs
unfolding elem
elem_member n [] t = absurd (false≢true t)
elem_member n (x ∷ xs) t = ⊎_elim (λ s. here (eqb-true n x s)) (λ s. there (elem_member n xs s)) (or_cases (eqb n x) (elem n xs) t)

module _ (p : Program) where
  -- value rows and chan rows are rows of the program
  pub value_bound : (r : ℕ) → So (value_row p r) → r < length p
  unfolding value_row form_at
  value_bound r t =
      let (f, e, v) = has_elim is_value (form_at p r) t in
      let (b, q, _) = bind_elim (bind_at p r) (λ b. some b.form) e in
      bind_bound p r b q

  pub chan_bound : (c : ℕ) → So (chan_row p c) → c < length p
  unfolding chan_row chan_at
  chan_bound c t =
      let (n, e, v) = has_elim (λ n. true) (chan_at p c) t in
      let (b, q, _) = bind_elim (bind_at p c) (λ b. chan_of b.name b.form) e in
      bind_bound p c b q

  -- every membership that tables may have is in the list
  memberships_all : (q : Variable) (a : Abstract) → So (widest p q a) → Member (q, a) (memberships p)
  unfolding widest memberships
  memberships_all q a t = collect_member _ (variable q (and_left _ (member_allowed p a) t)) (map_member (λ b. (q, b)) (member a (and_right (variable_allowed p q) _ t)))
    where
      variable : (q : Variable) → So (variable_allowed p q) → Member q (map name (collect binders p) ++ gather (length p) λ c. channel c ∷ [])
      variable (name n) h = unfold variable_allowed in member_left _ (map_member name (elem_member n (collect binders p) h))
      variable (channel c) h = unfold variable_allowed in member_right (map name (collect binders p)) (gather_member (length p) _ c (chan_bound c h) (here refl))

      member : (a : Abstract) → So (member_allowed p a) → Member a (u ∷ gather (length p) λ r. row r ∷ [])
      member u h = here refl
      member (row r) h = unfold member_allowed in there (gather_member (length p) _ r (value_bound r h) (here refl))

  -- ---- sets that leave out some memberships

  without_widest : (out : List Membership) (q : Variable) (a : Abstract) → So (without p out q a) → So (widest p q a)
  unfolding without
  without_widest out q a t = and_left _ _ t

  not_out : (out : List Membership) (q : Variable) (a : Abstract) → So (without p out q a) → Member (q, a) out → ⊥
  unfolding without
  not_out out q a t m = not_elim (and_right (widest p q a) _ t) (among_intro (same_membership (q, a)) m (same_membership_lem (q, a)))

  -- what one set that lies in another has, of what a set may hold
  lies_at : (s t : Set) → Lies p s t → (a : Abstract) → So (member_allowed p a) → So (s a) → So (t a)
  unfolding member_allowed
  lies_at s t h u v = h.0
  lies_at s t h (row r) v = h.1 r (value_bound r v)

  -- the constraints of smaller sets are kept by tables that keep every rule
  all_kept : (flow comm : Table) → KeepsAll p flow comm → (sets : Sets) → ((q : Variable) (a : Abstract) → So (sets q a) → So (both_tables flow comm q a))
      → Each (Kept p (both_tables flow comm)) (all_constraints p sets)
  unfolding all_constraints KeepsAll
  all_kept flow comm keeps sets less =
      (gather_iff _ (length p) _).1 λ r l.
      (found_iff _ (bind_at p r) _).1 λ b e. constraints_less _ p (λ n. less (name n)) r b.name b.form ((constraints_iff p flow comm r b.name b.form).1 (keeps r b e))

  both_same : (sets : Sets) → both_tables (λ n. sets (name n)) (λ c. sets (channel c)) ≡ sets
  both_same sets = fun_ext go
    where
      go : (q : Variable) → both_tables (λ n. sets (name n)) (λ c. sets (channel c)) q ≡ sets q
      go (name n) = refl
      go (channel c) = refl

  -- ---- what is put in is in all tables that keep the rules

  module _ (flow comm : Table) (keeps : KeepsAll p flow comm) where
    -- the sets without these memberships lie in the tables
    abbrev Inside : List Membership → Type 0
    Inside out = (q : Variable) (a : Abstract) → So (without p out q a) → So (both_tables flow comm q a)

    asked_inside : (out : List Membership) → Inside out → (q : Variable) (a : Abstract) → So (member_allowed p a) → (d : Constraint) → Kept p (both_tables flow comm) d
        → So (asks_for (without p out) (q, a) d) → So (both_tables flow comm q a)
    unfolding asks_for
    asked_inside out h q a v (holds b s) k t = let e = membership_same (q, a) (s, b) t in rw (ap (λ (x : Membership). x.0) e, ap (λ (x : Membership). x.1) e) k
    asked_inside out h q a v (lies from s) k t =
        let e = membership_same (q, a) (s, a) (search and_left) in
        let i : So (without p out from a) = search and_right in
        rw (ap (λ (x : Membership). x.0) e) (lies_at (both_tables flow comm from) (both_tables flow comm s) k a v (h from a i))

    round_inside : (out : List Membership) → Inside out → Inside (stays_out p out)
    round_inside out h q a t = go (among (same_membership (q, a)) out) refl
      where
        wide : So (widest p q a)
        wide = without_widest (stays_out p out) q a t

        asked : (b : Bool) → among (asks_for (without p out) (q, a)) (all_constraints p (without p out)) ≡ b → Member (q, a) out → So (both_tables flow comm q a)
        asked true e m =
            let (d, i, k) = among_elim (asks_for (without p out) (q, a)) (all_constraints p (without p out)) e in
            asked_inside out h q a (unfold widest in and_right (variable_allowed p q) _ wide) d (each_at (all_kept flow comm keeps (without p out) h) i) k
        asked false e m =
            let stays : Member (q, a) (stays_out p out) = unfold stays_out in those_member _ m (rw e) in
            absurd (not_out (stays_out p out) q a t stays)

        go : (b : Bool) → among (same_membership (q, a)) out ≡ b → So (both_tables flow comm q a)
        go true e =
            let (x, m, k) = among_elim (same_membership (q, a)) out e in
            let i : (q, a) ≡ x = membership_same (q, a) x k in
            asked _ refl (rw i m)
        go false e = h q a (unfold without in and_intro wide (rw e))

    rounds_inside : (k : ℕ) (out : List Membership) → Inside out → Inside (rounds p k out)
    unfolding rounds
    rounds_inside zero out h = h
    rounds_inside (suc k) out h = go (ltb (length (stays_out p out)) (length out)) (rounds_inside k (stays_out p out) (round_inside out h))
      where
        go : (b : Bool) → Inside (rounds p k (stays_out p out)) → Inside (elim b as (λ b. List Membership) [ true ↦ rounds p k (stays_out p out) | false ↦ out ])
        go true i = i
        go false i = h

    none_inside : Inside (memberships p)
    none_inside q a t = absurd (not_out (memberships p) q a t (memberships_all q a (without_widest (memberships p) q a t)))

    -- "each set lies inside the same set of any other tables that do"
    pub smallest_lies : Within (smallest_flow p) flow × Within (smallest_comm p) comm
    unfolding smallest_flow smallest_comm smallest
    smallest_lies = let h = rounds_inside (length (memberships p)) (memberships p) none_inside in (λ n. h (name n), λ c. h (channel c))

  -- ---- what stays out is not asked for

  abbrev Unasked : List Membership → Type 0
  Unasked out = Each (λ x. So (not (among (asks_for (without p out) x) (all_constraints p (without p out))))) out

  last_round : (out : List Membership) → length out ≤ length (stays_out p out) → Unasked out
  unfolding stays_out
  last_round out l = those_all _ out l

  rounds_end : (k : ℕ) (out : List Membership) → length out ≤ k → Unasked (rounds p k out)
  unfolding rounds
  rounds_end zero [] l = nil
  rounds_end zero (x ∷ xs) l = absurd (omega arith)
  rounds_end (suc k) out l = go (ltb (length (stays_out p out)) (length out)) refl (rounds_end k (stays_out p out))
    where
      go : (b : Bool) → ltb (length (stays_out p out)) (length out) ≡ b → (length (stays_out p out) ≤ k → Unasked (rounds p k (stays_out p out)))
          → Unasked (elim b as (λ b. List Membership) [ true ↦ rounds p k (stays_out p out) | false ↦ out ])
      go true e h = let s = ltb-true (length (stays_out p out)) (length out) e in h (omega arith)
      go false e h = last_round out (ltb-false (length (stays_out p out)) (length out) e)

  module _ (out : List Membership) (unasked : Unasked out) where
    put_in : (q : Variable) (a : Abstract) → So (widest p q a) → {d : Constraint} → Member d (all_constraints p (without p out)) → So (asks_for (without p out) (q, a) d) → So (without p out q a)
    unfolding without
    put_in q a w m t = and_intro w (not_intro (among (same_membership (q, a)) out) λ s.
        let (x, i, e) = among_elim (same_membership (q, a)) out s in
        let k : (q, a) ≡ x = membership_same (q, a) x e in
        not_elim (each_at unasked (rw k i)) (among_intro (asks_for (without p out) (q, a)) m t))

    each_kept : (d : Constraint) → Member d (all_constraints p (without p out)) → Kept p (widest p) d → Kept p (without p out) d
    unfolding asks_for
    each_kept (holds a q) m w = put_in q a w m (same_membership_lem (q, a))
    each_kept (lies s q) m w = (
      λ t. put_in q u (w.0 (without_widest out s u t)) m (and_intro (same_membership_lem (q, u)) t),
      λ r l t. put_in q (row r) (w.1 r l (without_widest out s (row r) t)) m (and_intro (same_membership_lem (q, row r)) t),
    )

    constraints_kept : Each (Kept p (without p out)) (all_constraints p (without p out))
    unfolding widest_flow widest_comm
    constraints_kept =
        let wide = all_kept (widest_flow p) (widest_comm p) (widest_keeps p) (without p out) (λ q a t. rw (both_same (widest p)) (without_widest out q a t)) in
        each_imp (λ d (m, w). each_kept d m (rw (both_same (widest p)) at w)) (each_both (each_member (all_constraints p (without p out))) wide)

    without_keeps : KeepsAll p (λ n. without p out (name n)) (λ c. without p out (channel c))
    unfolding KeepsAll all_constraints
    without_keeps r b e =
        (constraints_iff p (λ n. without p out (name n)) (λ c. without p out (channel c)) r b.name b.form).0
        (rw (both_same (without p out)) ((found_iff _ (bind_at p r) _).0 ((gather_iff _ (length p) _).0 constraints_kept r (bind_bound p r b e)) b e))

  -- "They keep every flow rule"
  pub smallest_keeps : KeepsAll p (smallest_flow p) (smallest_comm p)
  unfolding smallest_flow smallest_comm smallest
  smallest_keeps = without_keeps (rounds p (length (memberships p)) (memberships p)) (rounds_end (length (memberships p)) (memberships p) (omega arith))

  -- they hold only what tables may hold
  pub smallest_allowed : (q : Variable) (a : Abstract) → So (smallest p q a) → So (variable_allowed p q) × So (member_allowed p a)
  unfolding smallest widest
  smallest_allowed q a t = let w = without_widest _ q a t in (and_left _ (member_allowed p a) w, and_right (variable_allowed p q) _ w)

-- tables that keep the rules and lie in all tables that do are the smallest
pub smallest_unique : (p : Program) (flow comm : Table) → KeepsAll p flow comm
    → ((flow' comm' : Table) → KeepsAll p flow' comm' → Within flow flow' × Within comm comm') → (flow ≡ smallest_flow p) × (comm ≡ smallest_comm p)
smallest_unique p flow comm keeps least =
    let (f, c) = least (smallest_flow p) (smallest_comm p) (smallest_keeps p) in
    let (g, d) = smallest_lies p flow comm keeps in
    (fun_ext λ n. fun_ext λ a. same_tests _ _ (f n a) (g n a), fun_ext λ k. fun_ext λ a. same_tests _ _ (c k a) (d k a))
