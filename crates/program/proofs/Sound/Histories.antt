-- What a claim says of walks holds of the histories of every run.
use Prim.Native.Nat.{ℕ}
use mathlib.Core.Bool.{Bool, So}
use mathlib.Core.List.{List, map}
use Rattle.std.specs.Prelude.{Some as some}
use mathlib.Core.Path.{◌≡◌, sym, ◌∙◌, ap}
use mathlib.Core.Logic.{◌↔◌, inl, inr, ⊎_elim}
use Rattle.program.specs.declared.Word.{Word}
use Rattle.program.specs.declared.Word.TheVariants.{OneShot, OneToOne, FanOut, FanIn, Many, OneSync}
use Rattle.program.specs.Each.{Member}
use Rattle.program.specs.Flow.{Table, keeps_all}
use Rattle.program.specs.History.{AtMostOne, AtSend, AtReceive, HistoryFits}
use Rattle.program.specs.Program.{Program, chan_at}
use Rattle.program.specs.Run.{Path, Instance, made, Pool, Step, sends_on, receives_on, run}
use Rattle.program.specs.Snoc.{Ordered}
use Rattle.program.specs.Topology.{Fits, EveryTwo}
use Rattle.program.specs.Walk.{Walk, Shares, CanShare, EndsAt, Holds, send_place, receive_place}
use Rattle.program.proofs.Each.{member_unmap, each_at}
use Rattle.program.proofs.Maybe.{found_at}
use Rattle.program.proofs.Snoc.{size, begins_refl, begins_eq, begins_same}
use Rattle.program.proofs.Sound.Events.{at_send_place, at_receive_place}
use Rattle.program.proofs.Sound.Pools.{Traces}
use Rattle.program.proofs.Sound.Runs.{Good, run_good}
use Rattle.program.proofs.Sound.Traces.{Traced, thread, Follows, Related}
use Rattle.program.proofs.Sound.Walks.{parted_apart}
use Rattle.program.proofs.Topology.{fits_fewer}
use Rattle.program.proofs.WellFormed.{WellFormed}

module _ (p : Program) (well : WellFormed p) where
  ordered_paths : (s t : Traced) → Related p s t → Ordered s.walk t.walk → Ordered s.path t.path
  ordered_paths s t (inl (inl (b, w))) o = inl b
  ordered_paths s t (inl (inr h)) o = absurd (parted_apart p well s.walk t.walk h.walks o)
  ordered_paths s t (inr (inl (b, w))) o = inr b
  ordered_paths s t (inr (inr h)) o = absurd (parted_apart p well t.walk s.walk h.walks (⊎_elim inr inl o))

  same_paths : (s t : Traced) → size s.path ≡ size t.path → Related p s t → s.walk ≡ t.walk → s.path ≡ t.path
  same_paths s t l (inl (inl (b, w))) e = begins_same s.path t.path t.path b (begins_refl t.path) l
  same_paths s t l (inl (inr h)) e = absurd (parted_apart p well s.walk t.walk h.walks (inl (begins_eq e)))
  same_paths s t l (inr (inl (b, w))) e = sym (begins_same t.path s.path s.path b (begins_refl s.path) (sym l))
  same_paths s t l (inr (inr h)) e = absurd (parted_apart p well t.walk s.walk h.walks (inr (begins_eq e)))

  can_share : (s t : Traced) → Related p s t → CanShare p s.walk t.walk
  unfolding CanShare
  can_share s t = ⊎_elim (λ h. inl (shares s t h)) (λ h. inr (shares t s h))
    where
      shares : (s t : Traced) → Follows p s t → Shares p s.walk t.walk
      shares s t = ⊎_elim (λ h. inl h.1) (λ h. inr h.walks)

-- the threads that stand on a path at one of the places
module _ (p : Program) (flow : Table) (ts : List Traced) where
  pub record StandsAt (places : ℕ → Bool) (path : Path) : Type 0 where
    pub traced : Traced
    pub member : Member traced ts
    pub here : traced.path ≡ path
    pub place : So (places traced.state.row)

  ends_at : Traces p (Good p flow) ts → (places : ℕ → Bool) (x : Path) (a : StandsAt places x) → EndsAt p flow places a.traced.walk
  unfolding EndsAt
  ends_at h places x a = let g = each_at h.kept a.member in (g.is_walk, rw g.ends a.place)

module _ (p : Program) (well : WellFormed p) (flow : Table) (ts : List Traced) (h : Traces p (Good p flow) ts) where
  module _ (places : ℕ → Bool) (x y : Path) (a : StandsAt p flow ts places x) (b : StandsAt p flow ts places y) where
    pub related : Related p a.traced b.traced
    related = each_at (each_at h.related a.member) b.member

    same_path_lem : a.traced.walk ≡ b.traced.walk → x ≡ y
    same_path_lem e =
        let g = each_at h.levels a.member in
        let k = each_at h.levels b.member in
        sym a.here ∙ same_paths p well a.traced b.traced (g.size ∙ ap size e ∙ sym k.size) related e ∙ b.here

    ordered_path : Ordered a.traced.walk b.traced.walk → Ordered x y
    ordered_path o = rw (a.here, b.here) at (ordered_paths p well a.traced b.traced related o)

  -- paths that stand at places, any two of them judged
  module _
      (judged : Walk → Walk → Type 0)
      (places : ℕ → Bool)
      (stands : Path → Type 0)
      (at : (x : Path) → stands x → StandsAt p flow ts places x)
      (judge : (x y : Path) (a : stands x) (b : stands y) → judged (at x a).traced.walk (at y b).traced.walk)
    where
      -- the claim on the walks of two that stand
      claimed : (R : Walk → Walk → Type 0) → EveryTwo judged (EndsAt p flow places) R → (x y : Path) (a : stands x) (b : stands y) → R (at x a).traced.walk (at y b).traced.walk
      claimed R holds x y a b = holds (at x a).traced.walk (at y b).traced.walk (judge x y a b) (ends_at p flow ts h places x (at x a)) (ends_at p flow ts h places y (at y b))

      same_transfer : EveryTwo judged (EndsAt p flow places) (λ x y. x ≡ y) → EveryTwo (λ x y. Unit {0}) stands (λ x y. x ≡ y)
      same_transfer holds x y _ a b = same_path_lem places x y (at x a) (at y b) (claimed (λ x y. x ≡ y) holds x y a b)

      ordered_transfer : EveryTwo judged (EndsAt p flow places) Ordered → EveryTwo (λ x y. Unit {0}) stands Ordered
      ordered_transfer holds x y _ a b = ordered_path places x y (at x a) (at y b) (claimed Ordered holds x y a b)

  -- two sets of places, and the paths that stand at them
  module _
      (judged : Walk → Walk → Type 0)
      (sends receives : ℕ → Bool)
      (S R : Path → Type 0)
      (at_s : (x : Path) → S x → StandsAt p flow ts sends x)
      (at_r : (x : Path) → R x → StandsAt p flow ts receives x)
      (judge_s : (x y : Path) (a : S x) (b : S y) → judged (at_s x a).traced.walk (at_s y b).traced.walk)
      (judge_r : (x y : Path) (a : R x) (b : R y) → judged (at_r x a).traced.walk (at_r y b).traced.walk)
    where
      pub fits : (word : Word) → Holds p flow judged word sends receives → Fits (λ x y. Unit {0}) word S R
      unfolding Holds Fits
      fits OneShot h = same_transfer judged sends S at_s judge_s h
      fits OneToOne (h, k) = (ordered_transfer judged sends S at_s judge_s h, ordered_transfer judged receives R at_r judge_r k)
      fits FanOut h = ordered_transfer judged sends S at_s judge_s h
      fits FanIn h = ordered_transfer judged receives R at_r judge_r h
      fits Many h = tt
      fits OneSync (h, k) = (same_transfer judged sends S at_s judge_s h, same_transfer judged receives R at_r judge_r k)

-- the walks of any two traced threads can share a run
pub member_shares : (p : Program) → WellFormed p → (flow : Table) (ts : List Traced) → Traces p (Good p flow) ts → (s t : Traced) → Member s ts → Member t ts → CanShare p s.walk t.walk
member_shares p well flow ts h s t a b = can_share p well s t (each_at (each_at h.related a) b)

-- traced threads at sends and at receives on an instance
module _ (p : Program) (ts : List Traced) (i : Instance) where
  abbrev pub Sending : Path → Type 0
  Sending x = (t : Traced) × Member t ts × (t.path ≡ x) × (sends_on p t.state ≡ some i)

  abbrev pub Receiving : Path → Type 0
  Receiving x = (t : Traced) × Member t ts × (t.path ≡ x) × (receives_on p t.state ≡ some i)

  pub sending : (x : Path) → AtSend p (map thread ts) i x → Sending x
  unfolding AtSend thread
  sending x (st, m, q) = let (t, k, e) = member_unmap thread ts m in (t, k, sym (ap (λ a. a.path) e), ap (λ a. sends_on p a.state) (sym e) ∙ q)

  pub receiving : (x : Path) → AtReceive p (map thread ts) i x → Receiving x
  unfolding AtReceive thread
  receiving x (st, m, q) = let (t, k, e) = member_unmap thread ts m in (t, k, sym (ap (λ a. a.path) e), ap (λ a. receives_on p a.state) (sym e) ∙ q)

-- they stand at places of its chan row
module _ (p : Program) (well : WellFormed p) (flow : Table) (ts : List Traced) (h : Traces p (Good p flow) ts) (n c : ℕ) (chan : chan_at p c ≡ some n) (maker : Path) where
  abbrev send_stands : (x : Path) → Sending p ts (made maker n) x → StandsAt p flow ts (send_place p flow c) x
  send_stands x a = record { traced = a.0; member = a.1; here = a.2; place = found_at a.3 (at_send_place p well flow a.0.state (each_at h.kept a.1).covers c) chan }

  abbrev receive_stands : (x : Path) → Receiving p ts (made maker n) x → StandsAt p flow ts (receive_place p flow c) x
  receive_stands x a = record { traced = a.0; member = a.1; here = a.2; place = found_at a.3 (at_receive_place p well flow a.0.state (each_at h.kept a.1).covers c) chan }

  -- a claim over judged pairs of walks, where the walks of any two sends and of any two receives are judged
  pub instance_fits : (judged : Walk → Walk → Type 0)
      → ((x y : Path) (a : Sending p ts (made maker n) x) (b : Sending p ts (made maker n) y) → judged a.0.walk b.0.walk)
      → ((x y : Path) (a : Receiving p ts (made maker n) x) (b : Receiving p ts (made maker n) y) → judged a.0.walk b.0.walk)
      → (word : Word) → Holds p flow judged word (send_place p flow c) (receive_place p flow c) → HistoryFits p (map thread ts) (made maker n) word
  unfolding HistoryFits
  instance_fits judged judge_s judge_r word holds =
      fits_fewer (λ x y. Unit {0}) (AtSend p (map thread ts) (made maker n)) (Sending p ts (made maker n)) (AtReceive p (map thread ts) (made maker n)) (Receiving p ts (made maker n))
      (sending p ts (made maker n)) (receiving p ts (made maker n)) word
      (fits p well flow ts h judged (send_place p flow c) (receive_place p flow c) (Sending p ts (made maker n)) (Receiving p ts (made maker n)) send_stands receive_stands judge_s judge_r word holds)

-- Demand 3: where the tables keep the flow rules, a claim that holds of a chan row holds of the history of each of its instances, after any steps
pub claims_hold : (p : Program) (flow comm : Table) → WellFormed p → So (keeps_all p flow comm)
    → (word : Word) (n c : ℕ) → chan_at p c ≡ some n → Holds p flow (CanShare p) word (send_place p flow c) (receive_place p flow c)
    → (ss : List Step) (maker : Path) → HistoryFits p (run p ss) (made maker n) word
claims_hold p flow comm well keeps word n c chan holds ss maker =
    let r = run_good p well flow comm keeps ss in
    let shares = member_shares p well flow r.traced r.traces in
    rw r.same at (instance_fits p well flow r.traced r.traces n c chan maker (CanShare p)
    (λ x y a b. shares a.0 b.0 a.1 b.1) (λ x y a b. shares a.0 b.0 a.1 b.1) word holds)

-- A history fits one-sync exactly if it "holds at most one path at sends and at most one at receives"
pub one_sync_iff : (p : Program) (pool : Pool) (i : Instance) → HistoryFits p pool i OneSync ↔ (AtMostOne (AtSend p pool i) × AtMostOne (AtReceive p pool i))
unfolding HistoryFits Fits
one_sync_iff p pool i = (λ (h, k). (λ x y. h x y tt, λ x y. k x y tt), λ (h, k). (λ x y _. h x y, λ x y _. k x y))
