-- The verdict says of all pairs of walks what a claim says.
use Prim.Native.Nat.{ℕ, ◌<◌}
use mathlib.Core.Bool.{Bool, not, ◌&&◌, So}
use mathlib.Core.Path.{◌≡◌, refl, sym, ap}
use mathlib.Core.Logic.{◌↔◌, inl, inr, ⊎_elim}
use native.Mathlib.Omega.{arith}
use lib.ListN.{length}
use Rattle.program.specs.declared.Word.{Word}
use Rattle.program.specs.declared.Word.TheVariants.{OneShot, OneToOne, FanOut, FanIn, Many, OneSync}
use Rattle.program.specs.Flow.{Table}
use Rattle.program.specs.Maybe.{has}
use Rattle.program.specs.Program.{Program, fork_at}
use Rattle.program.specs.Snoc.{◌▷◌, Begins, Continues, Ordered}
use Rattle.program.specs.Test.{any}
use Rattle.program.specs.Topology.{Fits, EveryTwo}
use Rattle.program.specs.Verdict.{reach, says, reached, leads, in_a_row, rivals, ends, facts, verdict}
use Rattle.program.specs.Walk.{Walk, last_row, edge, IsWalk, Parted, CanShare, EndsAt, Holds}
use Rattle.program.proofs.Decides.Closure.{closed_sound, closed_complete}
use Rattle.program.proofs.Decides.Leads.{TellsReach, fork_row, walk_bound, walk_reached, reached_walk, leads_to, from_lead}
use Rattle.program.proofs.Decides.Reach.{walk_on, walk_between}
use Rattle.program.proofs.Decides.Targets.{edge_bound}
use Rattle.program.proofs.Maybe.{has_intro, has_elim}
use Rattle.program.proofs.Snoc.{size, begins_eq, begins_cases, continues_begins, continues_size}
use Rattle.program.proofs.Sound.Edges.{edge_child, edge_fork_rest}
use Rattle.program.proofs.Sound.Walks.{parted_apart, walk_begins}
use Rattle.program.proofs.Test.{and_left, and_right, and_intro, not_elim, not_intro, any_intro, any_elim}
use Rattle.program.proofs.WellFormed.{WellFormed}

-- pairs of walks that are judged, told by their shared beginning: the shorter walk, or where the two part
pub record Judges (p : Program) (judged : Walk → Walk → Type 0) (Shared : Walk → Type 0) : Type 0 where
  pub shares : (x y : Walk) → judged x y → CanShare p x y
  pub flips : (x y : Walk) → judged x y → judged y x
  pub ordered : (x y : Walk) → Begins x y → judged x y ↔ Shared x
  pub parted : (x y : Walk) (h : Parted p x y) → judged x y ↔ Shared h.common

-- the rows that shared beginnings come to
pub record Comes (p : Program) (flow : Table) (comes : ℕ → Bool) (Shared : Walk → Type 0) : Type 0 where
  pub walk : (r : ℕ) → r < length p → So (comes r) → (w : Walk) × IsWalk p flow w × (last_row w ≡ r) × Shared w
  pub row : (w : Walk) → IsWalk p flow w → Shared w → So (comes (last_row w))

module _ (p : Program) (well : WellFormed p) (flow : Table) (rows : 0 < length p) (reach : ℕ → ℕ → Bool) (tells : TellsReach p flow reach)
    (judged : Walk → Walk → Type 0) (Shared : Walk → Type 0) (judges : Judges p judged Shared) (comes : ℕ → Bool) (come : Comes p flow comes Shared) where
  module _ (places : ℕ → Bool) where
    -- walks that part and end at places
    rivals_found : (x y : Walk) → Parted p x y → judged x y → EndsAt p flow places x → EndsAt p flow places y → So (rivals p reach comes places)
    unfolding rivals EndsAt IsWalk
    rivals_found x y h j i k =
        let common : IsWalk p flow h.common = (walk_begins p flow (h.common ▷ h.child) x i.0 h.first).0 in
        any_intro _ (last_row h.common) (fork_row p (last_row h.common) h.child h.rest h.forks)
        (and_intro (come.row h.common common ((judges.parted x y h).0 j))
        (has_intro _ h.forks (and_intro
        (leads_to p well flow rows reach tells places h.common x h.child i h.first)
        (leads_to p well flow rows reach tells places h.common y h.rest k h.second))))

    rivals_walks : So (rivals p reach comes places) → (x : Walk) × (y : Walk) × Parted p x y × judged x y × EndsAt p flow places x × EndsAt p flow places y
    unfolding rivals IsWalk
    rivals_walks h =
        let (q, l, i) = any_elim (length p) _ h in
        let (w, g, e, s) = come.walk q l (search and_left) in
        let forks : So (has (fork_at p q) λ (t, rest). leads p reach places t && leads p reach places rest) = search and_right in
        let ((t, rest), f, j) = has_elim _ (fork_at p q) forks in
        let (x, i, b) = from_lead p well flow rows reach tells places w t (g, rw e (edge_child p flow q t rest f)) (search and_left) in
        let (y, k, d) = from_lead p well flow rows reach tells places w rest (g, rw e (edge_fork_rest p flow q t rest f)) (search and_right) in
        let parted : Parted p x y = record { common = w; child = t; rest = rest; forks = rw e f; first = b; second = d } in
        (x, y, parted, (judges.parted x y parted).1 s, i, k)

    -- two places on one walk
    repeat_found : (x y : Walk) → Continues x y → judged x y → EndsAt p flow places x → EndsAt p flow places y → So (in_a_row p reach comes places)
    unfolding in_a_row EndsAt
    repeat_found x y c j (h, q) (i, m) =
        any_intro _ (last_row x) (walk_bound p well flow rows reach tells x h)
        (and_intro (come.row x h ((judges.ordered x y (continues_begins x y c)).0 j)) (and_intro q (any_intro _ (last_row y) (walk_bound p well flow rows reach tells y i)
        (and_intro (tells.complete (last_row x) (last_row y) (walk_bound p well flow rows reach tells x h) (walk_between p flow x y i c)) m))))

    repeat_walks : So (in_a_row p reach comes places) → (x : Walk) × (y : Walk) × Continues x y × judged x y × EndsAt p flow places x × EndsAt p flow places y
    unfolding in_a_row EndsAt
    repeat_walks h =
        let (r, l, i) = any_elim (length p) _ h in
        let (x, g, e, s) = come.walk r l (search and_left) in
        let onward : So (any (length p) λ s. reach r s && places s) = search (and_left, and_right) in
        let (s', m, j) = any_elim (length p) _ onward in
        let (y, k, f, c) = walk_on p flow x s' g (rw e (tells.sound r s' l m (search and_left))) in
        (x, y, c, (judges.ordered x y (continues_begins x y c)).1 s, (g, rw e (search (and_left, and_right))), (k, rw f (search and_right)))

    -- every two that are judged are ordered: there are no rivals
    ordered_iff : So (not (rivals p reach comes places)) ↔ EveryTwo judged (EndsAt p flow places) Ordered
    unfolding CanShare
    ordered_iff = (λ h x y j. apart h x y j (judges.shares x y j), together)
      where
        apart : So (not (rivals p reach comes places)) → (x y : Walk) → judged x y → CanShare p x y → EndsAt p flow places x → EndsAt p flow places y → Ordered x y
        apart h x y j (inl (inl b)) i k = inl b
        apart h x y j (inl (inr d)) i k = absurd (not_elim h (rivals_found x y d j i k))
        apart h x y j (inr (inl b)) i k = inr b
        apart h x y j (inr (inr d)) i k = absurd (not_elim h (rivals_found y x d (judges.flips x y j) k i))

        together : EveryTwo judged (EndsAt p flow places) Ordered → So (not (rivals p reach comes places))
        together h = not_intro (rivals p reach comes places) λ r.
            let (x, y, d, j, i, k) = rivals_walks r in
            parted_apart p well x y d (h x y j i k)

    -- they are the same: there are no rivals, and no two places on one walk
    same_iff : So (not (in_a_row p reach comes places) && not (rivals p reach comes places)) ↔ EveryTwo judged (EndsAt p flow places) (λ x y. x ≡ y)
    unfolding CanShare
    same_iff = (λ h x y j. apart h x y j (judges.shares x y j), together)
      where
        alone : So (not (in_a_row p reach comes places)) → (x y : Walk) → Begins x y → judged x y → EndsAt p flow places x → EndsAt p flow places y → x ≡ y
        alone h x y b j i k = ⊎_elim (λ e. e) (λ c. absurd (not_elim h (repeat_found x y c j i k))) (begins_cases x y b)

        apart : So (not (in_a_row p reach comes places) && not (rivals p reach comes places)) → (x y : Walk) → judged x y → CanShare p x y → EndsAt p flow places x → EndsAt p flow places y → x ≡ y
        apart h x y j (inl (inl b)) i k = alone (search and_left) x y b j i k
        apart h x y j (inl (inr d)) i k = absurd (not_elim {a = rivals p reach comes places} (search and_right) (rivals_found x y d j i k))
        apart h x y j (inr (inl b)) i k = sym (alone (search and_left) y x b (judges.flips x y j) k i)
        apart h x y j (inr (inr d)) i k = absurd (not_elim {a = rivals p reach comes places} (search and_right) (rivals_found y x d (judges.flips x y j) k i))

        together : EveryTwo judged (EndsAt p flow places) (λ x y. x ≡ y) → So (not (in_a_row p reach comes places) && not (rivals p reach comes places))
        together h =
            and_intro
            (not_intro (in_a_row p reach comes places) λ r.
            let (x, y, c, j, i, k) = repeat_walks r in
            let e : x ≡ y = h x y j i k in
            omega (arith, continues_size x y c, ap size e))
            (not_intro (rivals p reach comes places) λ r.
            let (x, y, d, j, i, k) = rivals_walks r in
            parted_apart p well x y d (inl (begins_eq (h x y j i k))))

  pub verdict_iff : (word : Word) (sends receives : ℕ → Bool) → So (verdict p reach comes word sends receives) ↔ Holds p flow judged word sends receives
  unfolding verdict says facts ends Holds Fits
  verdict_iff OneShot sends receives = same_iff sends
  verdict_iff OneToOne sends receives =
      (λ h. ((ordered_iff sends).0 (search and_left), (ordered_iff receives).0 (search and_right)), λ (h, k). and_intro ((ordered_iff sends).1 h) ((ordered_iff receives).1 k))
  verdict_iff FanOut sends receives = ordered_iff sends
  verdict_iff FanIn sends receives = ordered_iff receives
  verdict_iff Many sends receives = (λ h. tt, λ h. refl)
  verdict_iff OneSync sends receives =
      (λ h. ((same_iff sends).0 (search and_left), (same_iff receives).0 (search and_right)), λ (h, k). and_intro ((same_iff sends).1 h) ((same_iff receives).1 k))

-- the grid tells
pub reach_tells : (p : Program) → WellFormed p → (flow : Table) → TellsReach p flow (reach p flow)
unfolding reach
reach_tells p well flow = record { sound = closed_sound (length p) (edge p flow); complete = closed_complete (length p) (edge p flow) (edge_bound p well flow) }

-- all pairs that can share a run are judged
all_judged : (p : Program) → Judges p (CanShare p) (λ w. Unit {0})
unfolding CanShare
all_judged p = record {
  shares = λ x y j. j;
  flips = λ x y. ⊎_elim inr inl;
  ordered = λ x y b. (λ j. tt, λ _. inl (inl b));
  parted = λ x y h. (λ j. tt, λ _. inl (inr h));
}

-- the verdict of the grid is the claim over all pairs of walks
pub claim_iff : (p : Program) → WellFormed p → (flow : Table) → 0 < length p → (word : Word) (sends receives : ℕ → Bool)
    → So (verdict p (reach p flow) (reached p (reach p flow)) word sends receives) ↔ Holds p flow (CanShare p) word sends receives
claim_iff p well flow rows =
    let tells = reach_tells p well flow in
    verdict_iff p well flow rows (reach p flow) tells (CanShare p) (λ w. Unit {0}) (all_judged p) (reached p (reach p flow)) (record {
      walk = λ r l h. let (w, i, e) = reached_walk p well flow rows (reach p flow) tells r l h in (w, i, e, tt);
      row = λ w h _. walk_reached p well flow rows (reach p flow) tells w h;
    })
