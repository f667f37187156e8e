-- What refusals 6 and 7 leave: every pointer leads to a later row, no row is pointed at twice, no name is bound twice.
use Prim.Native.Nat.{ℕ, zero, suc, ◌<◌, ◌≤◌}
use mathlib.Core.Bool.{true, false, not, ◌&&◌, ◌||◌, So, false≢true}
use mathlib.Core.List.{List, [], ◌∷◌, ◌++◌, append_assoc, append-nil}
use Rattle.std.specs.Prelude.{Option, None as none, Some as some}
use mathlib.Core.Path.{◌≡◌, refl, sym, ap, ◌∙◌}
use mathlib.Core.Logic.{⊎_elim}
use native.Mathlib.Omega.{arith}
use lib.ListN.{length, take, get_or}
use lib.Seq.{take-suc, take_all}
use lib.Dec.{ltb, eqb}
use borrow.Author.Tests.{not-false, not-true, ne_eqb, eqb-false}
use Rattle.program.specs.declared.Row.{Row}
use Rattle.program.specs.Test.{least}
use Rattle.program.specs.Maybe.{◌>>=◌, ◌<|>◌}
use Rattle.program.specs.Each.{Each, every, collect, elem}
use Rattle.program.specs.Program.{Program, row_at, pointers, binders}
use Rattle.program.proofs.Test.{and_left, and_right, and_intro, not_intro, or_cases, or_left, or_right, all_intro, least_none, or_neither}
use Rattle.program.proofs.WellFormed.{distinct, pointers_rise, WellFormed}
use Rattle.program.proofs.Each.{collect-append, elem-append}
use Rattle.format.specs.declared.Refusal.{Refusal}
use Rattle.format.specs.Document.{Entry, Document, with_tables}
use Rattle.format.specs.Structure.{wrong_pointers, pointer_fault, bound_earlier, binder_fault, scope_line, flow_allowed, comm_allowed, claim_allowed, flow_line, comm_line, claim_line}
use Rattle.format.specs.Structure.{not_allowed, structure_fault}
use Rattle.format.specs.WellFormed.{orderly, well_formed}
use Rattle.format.proofs.First.{none_first, first_none}

-- ---- 6: the rows that one row points at

-- each is later and there, and none is pointed at earlier
right_pointers : (n r : ℕ) (earlier ts : List ℕ) → wrong_pointers n r earlier ts ≡ false → So (every (λ t. ltb r t && ltb t n) ts) × (bound_earlier earlier ts ≡ false)
unfolding wrong_pointers bound_earlier every
right_pointers n r earlier [] e = (refl, refl)
right_pointers n r earlier (t ∷ ts) e =
    let (h, k) = or_neither (not (ltb r t && ltb t n) || elem t earlier) (wrong_pointers n r (t ∷ earlier) ts) e in
    let (i, j) = or_neither (not (ltb r t && ltb t n)) (elem t earlier) h in
    let (v, w) = right_pointers n r (t ∷ earlier) ts k in
    (and_intro (not-false (ltb r t && ltb t n) i) v, rw (j, w))

-- ---- numbers that are each new are all different

distinct_snoc : (xs : List ℕ) (y : ℕ) → So (distinct xs) → elem y xs ≡ false → So (distinct (xs ++ (y ∷ [])))
unfolding distinct elem
distinct_snoc [] y h e = refl
distinct_snoc (x ∷ xs) y h e =
    let (i, j) = or_neither (eqb y x) (elem y xs) e in
    let k : eqb x y ≡ false = ne_eqb x y (λ q. eqb-false y x i (sym q)) in
    let l : elem x xs ≡ false = not-true (elem x xs) (and_left (not (elem x xs)) (distinct xs) h) in
    rw (elem-append x xs (y ∷ []), l, k) (distinct_snoc xs y (and_right (not (elem x xs)) (distinct xs) h) j)

-- numbers of which none is in xs, nor twice among them
fresh_distinct : (xs ys earlier : List ℕ) → So (distinct xs) → ((n : ℕ) → So (elem n xs) → So (elem n earlier)) → bound_earlier earlier ys ≡ false → So (distinct (xs ++ ys))
unfolding bound_earlier elem
fresh_distinct xs [] earlier h k e = rw (append-nil) h
fresh_distinct xs (y ∷ ys) earlier h k e =
    let (i, j) = or_neither (elem y earlier) (bound_earlier (y ∷ earlier) ys) e in
    let new : elem y xs ≡ false = not-true (elem y xs) (not_intro (elem y xs) (λ t. false≢true (sym i ∙ k y t))) in
    rw (append_assoc xs (y ∷ []) ys) at (fresh_distinct (xs ++ (y ∷ [])) ys (y ∷ earlier) (distinct_snoc xs y h new) (λ n t. within n (rw (elem-append n xs (y ∷ [])) at t)) j)
  where
    within : (n : ℕ) → So (elem n xs || (eqb n y || false)) → So (eqb n y || elem n earlier)
    within n t = ⊎_elim (λ a. or_right (eqb n y) (k n a)) (λ a. ⊎_elim (λ b. or_left (elem n earlier) b) (λ b. absurd (false≢true b)) (or_cases (eqb n y) false a))
        (or_cases (elem n xs) (eqb n y || false) t)

-- ---- over all rows

module _ (f : Row → List ℕ) (p : Program) where
  collect_next : (r : ℕ) → r < length p → collect f (take (suc r) p) ≡ collect f (take r p) ++ f (row_at p r)
  unfolding collect row_at
  collect_next r l = ap (collect f) (take-suc p r (Row.Result 0) l) ∙ collect-append f (take r p) (get_or p r (Row.Result 0) ∷ [])
      ∙ ap (λ (l : List ℕ). collect f (take r p) ++ l) (append-nil (f (get_or p r (Row.Result 0))))

  distinct_rows : ((r : ℕ) → r < length p → bound_earlier (collect f (take r p)) (f (row_at p r)) ≡ false) → (r : ℕ) → r ≤ length p → So (distinct (collect f (take r p)))
  unfolding collect distinct
  distinct_rows h zero l = refl
  distinct_rows h (suc r) l = rw (collect_next r l) (fresh_distinct (collect f (take r p)) (f (row_at p r)) (collect f (take r p)) (distinct_rows h r (omega arith)) (λ n t. t) (h r l))

  pub all_distinct : ((r : ℕ) → r < length p → bound_earlier (collect f (take r p)) (f (row_at p r)) ≡ false) → So (distinct (collect f p))
  all_distinct h = rw (take_all (length p) p (omega arith)) at (distinct_rows h (length p) (omega arith))

-- ---- a document without a structure fault

-- the four parts of which none finds a fault
alternatives : (a b c d : Option Refusal) → (a <|> b <|> c <|> d) ≡ none → (a ≡ none) × (b ≡ none) × (c ≡ none) × (d ≡ none)
unfolding ◌<|>◌
alternatives none none none d e = (refl, refl, refl, e)
alternatives (some x) b c d e = let z : ◌≡◌ {A = ℕ} 0 1 = cc in absurd (omega arith)
alternatives none (some x) c d e = let z : ◌≡◌ {A = ℕ} 0 1 = cc in absurd (omega arith)
alternatives none none (some x) d e = let z : ◌≡◌ {A = ℕ} 0 1 = cc in absurd (omega arith)

bind_none : {A B : Type 0} (o : Option A) (f : A → B) → (o >>= λ a. some (f a)) ≡ none → o ≡ none
unfolding ◌>>=◌
bind_none none f e = refl
bind_none (some a) f e = let z : ◌≡◌ {A = ℕ} 0 1 = cc in absurd (omega arith)

pub record Structured (d : Document) : Type 0 where
  pub pointers_right : (r : ℕ) → r < length d.rows → pointer_fault d.rows r ≡ false
  pub binders_right : (r : ℕ) → r < length d.rows → binder_fault d.rows r ≡ false
  pub scope_right : scope_line d.rows ≡ none
  pub allowed : not_allowed d ≡ none

pub structured : (d : Document) → structure_fault d ≡ none → Structured d
unfolding structure_fault
structured d e =
    let (a, b, c, f) = alternatives _ _ _ _ e in
    record {
      pointers_right = least_none (length d.rows) (pointer_fault d.rows) (bind_none (least (length d.rows) (pointer_fault d.rows)) _ a);
      binders_right = least_none (length d.rows) (binder_fault d.rows) (bind_none (least (length d.rows) (binder_fault d.rows)) _ b);
      scope_right = bind_none (scope_line d.rows) _ c;
      allowed = bind_none (not_allowed d) _ f;
    }

pub well_formed_lem : (d : Document) → structure_fault d ≡ none → WellFormed d.rows
unfolding pointer_fault binder_fault pointers_rise
well_formed_lem d e =
    let s = structured d e in
    let p = d.rows in
    record {
      rises = all_intro (length p) _ (λ r l. (pointed r l).0);
      pointed_once = all_distinct pointers p (λ r l. (pointed r l).1);
      bound_once = all_distinct binders p s.binders_right;
    }
  where
    pointed : (r : ℕ) → r < length d.rows → So (every (λ t. ltb r t && ltb t (length d.rows)) (pointers (row_at d.rows r)))
        × (bound_earlier (collect pointers (take r d.rows)) (pointers (row_at d.rows r)) ≡ false)
    pointed r l =
        right_pointers (length d.rows) r (collect pointers (take r d.rows)) (pointers (row_at d.rows r))
        (or_neither (wrong_pointers (length d.rows) r (collect pointers (take r d.rows)) (pointers (row_at d.rows r))) _ ((structured d e).pointers_right r l)).0

-- ---- other flow and comm lines

three : (a b c : Option ℕ) → (a <|> b <|> c) ≡ none → (a ≡ none) × (b ≡ none) × (c ≡ none)
unfolding ◌<|>◌
three none none c e = (refl, refl, e)
three (some x) b c e = let z : ◌≡◌ {A = ℕ} 0 1 = cc in absurd (omega arith)
three none (some x) c e = let z : ◌≡◌ {A = ℕ} 0 1 = cc in absurd (omega arith)

last_other : (a b c x y : Option Refusal) → (a <|> b <|> c <|> x) ≡ none → y ≡ none → (a <|> b <|> c <|> y) ≡ none
unfolding ◌<|>◌
last_other a b c x y e h = let (i, j, k, _) = alternatives a b c x e in rw (i, j, k, h)

-- the lines of a document without a structure fault
pub lines_allowed : (d : Document) → structure_fault d ≡ none → Each (λ e. So (flow_allowed d.rows e)) d.flows × Each (λ e. So (comm_allowed d.rows e)) d.comms
    × Each (λ c. So (claim_allowed d.rows c)) d.claims
lines_allowed d e = go (structured d e).allowed
  where
    go : not_allowed d ≡ none → Each (λ e. So (flow_allowed d.rows e)) d.flows × Each (λ e. So (comm_allowed d.rows e)) d.comms
        × Each (λ c. So (claim_allowed d.rows c)) d.claims
    go k = unfold not_allowed in
        let (f, c, l) = three _ _ _ k in
        (first_none (flow_allowed d.rows) (flow_line d) d.flows f, first_none (comm_allowed d.rows) (comm_line d) d.comms c, first_none (claim_allowed d.rows) (claim_line d) d.claims l)

-- lines that are allowed in the place of those of a document without a structure fault
pub other_tables : (d : Document) (flows comms : List Entry) → structure_fault d ≡ none
    → Each (λ e. So (flow_allowed d.rows e)) flows → Each (λ e. So (comm_allowed d.rows e)) comms → structure_fault (with_tables d flows comms) ≡ none
unfolding structure_fault ◌>>=◌
other_tables d flows comms e f c = last_other _ _ _ _ _ e (rw allowed_here)
  where
    allowed_here : not_allowed (with_tables d flows comms) ≡ none
    allowed_here = unfold not_allowed ◌<|>◌ in rw (
      none_first (flow_allowed d.rows) (flow_line (with_tables d flows comms)) flows f,
      none_first (comm_allowed d.rows) (comm_line (with_tables d flows comms)) comms c,
      none_first (claim_allowed d.rows) (claim_line (with_tables d flows comms)) d.claims (lines_allowed d e).2,
    )

-- ---- the two parts of a well-formed document

module _ (d : Document) (w : So (well_formed d)) where
  pub orderly_of : So (orderly d)
  unfolding well_formed
  orderly_of = and_left (orderly d) _ w

  pub faultless_of : structure_fault d ≡ none
  unfolding well_formed
  faultless_of = go (structure_fault d) (and_right (orderly d) _ w)
    where
      go : (o : Option Refusal) → So (elim o [ none ↦ true | some r ↦ false ]) → o ≡ none
      go none t = refl
      go (some r) t = absurd (false≢true t)
