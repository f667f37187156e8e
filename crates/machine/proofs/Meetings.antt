-- A sender and a receiver meet in the machine exactly where the run rules let their paths meet.
use Prim.Native.Nat.{ℕ}
use native.Mathlib.Decide.{ℕ_discrete}
use mathlib.Core.Bool.{Bool, true, false, So, false≢true}
use mathlib.Core.List.{List, [], ◌∷◌, ◌++◌}
use Rattle.std.specs.Prelude.{None as none, Some as some}
use mathlib.Core.Path.{◌≡◌, refl, sym, ◌∙◌, ap, subst}
use mathlib.Core.Logic.{◌≢◌}
use lib.Dec.{eqb}
use borrow.Author.Tests.{eq-eqb, eqb-true}
use Rattle.program.specs.declared.Bind.{Bind}
use Rattle.program.specs.declared.Form.{Form}
use Rattle.program.specs.declared.Form.TheVariants.{Chan, Send, Recv, Pair, Left, Right, Fun, Spawn, Sync, First, Second, Case, Apply}
use Rattle.program.specs.Maybe.{◌>>=◌, given, provided}
use Rattle.program.specs.Program.{Program, bind_at, form_at, sync_at, send_of, recv_of, send_at, recv_at}
use Rattle.program.specs.Run.{next, Path, Instance, same_instance, Value, unit, Env, State, Move, Pool, meet, leaf_state, lengthen, proceed, event, sends_on, message, offer, receives_on, added}
use Rattle.program.specs.Snoc.{◌▷◌, Continues}
use Rattle.program.proofs.Maybe.{Found, nothing, found, found_at, bind_elim}
use Rattle.program.proofs.Snoc.{begins_refl}
use Rattle.machine.specs.declared.ThreadRecord.{ThreadRecord}
use Rattle.machine.specs.declared.Held.{Held}
use Rattle.machine.specs.declared.Kept.{Kept}
use Rattle.machine.specs.declared.Kept.TheVariants.{Keeps}
use Rattle.machine.specs.Machine.{Memory, Machine, thread_at, Change, changed, go_on, event_of, sends, sends_what, offers, awaits, together}
use Rattle.machine.specs.Meaning.{Marked, own_at, state_in, Marks, memory_of}
use Rattle.machine.proofs.Flat.{flat}
use Rattle.machine.proofs.Like.{Like, neither, both, like_bind, like_same, like_found}
use Rattle.machine.proofs.Meaning.{Means, find_like, SameClosure, closure_like, channel_like}
use Rattle.machine.proofs.Changes.{Meant, unit_means}
use Rattle.machine.proofs.Leaves.{put, put_other, same_path, no_some, leaf_new, leaf_alone, leaves_after}
use Rattle.machine.proofs.Stands.{Stands, here, leaf_here, state_here, goes_on, put_elsewhere, at_none, states_at, same_some}

-- ---- a form isn't both a send and a receive

send_form : (f : Form) → Found (λ k. f ≡ Send k.0 k.1) (send_of f)
send_form = elim [
  | Form.Unit ↦ nothing
  | Chan ↦ nothing
  | Send c m ↦ found refl
  | Recv c ↦ nothing
  | Pair x y ↦ nothing
  | Left x ↦ nothing
  | Right x ↦ nothing
  | Fun f x t ↦ nothing
  | Spawn t ↦ nothing
  | Sync e ↦ nothing
  | First a ↦ nothing
  | Second a ↦ nothing
  | Case s x t y w ↦ nothing
  | Apply f a ↦ nothing
]

send_or_receive : (p : Program) (r : ℕ) (k : ℕ × ℕ) (c : ℕ) → send_at p r ≡ some k → recv_at p r ≡ some c → ⊥
unfolding send_at recv_at
send_or_receive p r k c e f =
    let (x, a, b) = bind_elim (form_at p r) send_of e in
    let (y, a', b') = bind_elim (form_at p r) recv_of f in
    let q : y ≡ Send k.0 k.1 = (let z : y ≡ x = cc in z) ∙ found_at b (send_form x) in
    no_some {o = none} refl (sym (ap recv_of q) ∙ b')

-- a state does not offer and await
one_side : (p : Program) (st : State) (i j : Instance) (v : Value) → offer p st ≡ some (i, v) → receives_on p st ≡ some j → ⊥
unfolding offer sends_on receives_on
one_side p st i j v o f =
    let (_, e, _) = bind_elim (sends_on p st) _ o in
    let (a, q, e') = bind_elim (event p st) _ e in
    let (b, r, f') = bind_elim (event p st) _ f in
    let (k, s, _) = bind_elim (send_at p a.0) _ e' in
    let (c, u, _) = bind_elim (recv_at p b.0) _ f' in
    let z : b ≡ a = cc in
    send_or_receive p a.0 k c s (ap (λ (k : ℕ × Env). recv_at p k.0) (sym z) ∙ u)

-- ---- offers and receives are found alike

-- a cell made the channel that is this instance
abbrev pub SameChannel : List Marked → ℕ → Instance → Type 0
SameChannel cs k i = own_at cs k ≡ some i

module _ (p : Program) (g : Marks) (w : Meant g) (t : ThreadRecord) where
  event_like : Like (SameClosure g.cells) (event_of p (memory_of g) t) (event p (state_in g.cells g.frames t))
  unfolding event_of event state_in
  event_like = like_same (sync_at p t.row) λ e _. closure_like g.cells w.cells t.cell e

  sends_like : Like (SameChannel g.cells) (sends p (memory_of g) t) (sends_on p (state_in g.cells g.frames t))
  unfolding sends sends_on
  sends_like =
      like_bind event_like λ (r, k) (r', env) (q, l, e).
      rw (q, e) (like_same (send_at p r') λ (c, x) _. channel_like g.cells w.cells k c)

  message_like : Like (Means g.cells) (sends_what p (memory_of g) t) (message p (state_in g.cells g.frames t))
  unfolding sends_what message
  message_like =
      like_bind event_like λ (r, k) (r', env) (q, l, e).
      rw (q, e) (like_same (send_at p r') λ (c, x) _. find_like g.cells w.cells k x)

  offer_like : Like (λ a b. SameChannel g.cells a.0 b.0 × Means g.cells a.1 b.1) (offers p (memory_of g) t) (offer p (state_in g.cells g.frames t))
  unfolding offers offer
  offer_like = like_bind sends_like λ a i same. like_bind message_like λ v v' m. both (same, m)

  await_like : Like (SameChannel g.cells) (awaits p (memory_of g) t) (receives_on p (state_in g.cells g.frames t))
  unfolding awaits receives_on
  await_like =
      like_bind event_like λ (r, k) (r', env) (q, l, e).
      rw (q, e) (like_same (recv_at p r') λ c _. channel_like g.cells w.cells k c)

-- two tests that agree
like_test : {P : Type 0} (b : Bool) (d : Dec P) → (So b → P) → (P → So b) → Like (λ t q. P) (given b) (provided d)
unfolding given provided
like_test true (yes q) f k = both q
like_test true (no n) f k = absurd (n (f refl))
like_test false (yes q) f k = absurd (false≢true (k q))
like_test false (no n) f k = neither

on_born : (m : Memory) (t : ThreadRecord) (b : Bind) (k : Kept) → (go_on m t b k).born ≡ []
unfolding go_on
on_born m t b k = refl

still_there : (m : Machine) (n k : ℕ) (t : ThreadRecord) (c : Change) → c.born ≡ [] → k ≢ n → thread_at m.threads k ≡ some t → thread_at (changed m n c).threads k ≡ some t
unfolding changed
still_there m n k t c e d at = rw e (put_elsewhere m.threads [] n k c.thread d ∙ at_none m.threads k ∙ at)

module _ (p : Program) (m : Machine) (pool : Pool) (path : ℕ → Path) (h : Stands m pool path)
    (sender : ℕ) (s : ThreadRecord) (at : thread_at m.threads sender ≡ some s)
    (receiver : ℕ) (r : ThreadRecord) (at' : thread_at m.threads receiver ≡ some r)
  where
    abbrev gm : Marks
    gm = h.marks

    abbrev sending : State
    sending = state_in gm.cells gm.frames s

    abbrev receiving : State
    receiving = state_in gm.cells gm.frames r

    -- the sender's leaf is untouched by the receiver's step
    untouched : sender ≢ receiver → (mv : Move) → leaf_state (lengthen (path receiver) mv ∷ pool) (path sender) ≡ leaf_state pool (path sender)
    unfolding lengthen
    untouched differ mv =
        let apart : path sender ≢ path receiver = λ z. differ (h.lined.once sender receiver sending receiving (states_at gm m.threads sender s at) (states_at gm m.threads receiver r at') z) in
        let longer : path sender ≢ path receiver ▷ mv.label = λ z. leaf_alone pool (path receiver) (path sender) sending (leaf_here m pool path h receiver r at') (state_here m pool path h sender s at) (subst (Continues (path receiver)) (sym z) (begins_refl (path receiver))) in
        leaves_after pool (path receiver) mv.label mv.state receiving (state_here m pool path h receiver r at') (leaf_new pool (path receiver) mv.label (leaf_here m pool path h receiver r at')) (path sender)
        ∙ put_other same_path _ (path receiver ▷ mv.label) (some mv.state) (path sender) longer
        ∙ put_other same_path (leaf_state pool) (path receiver) none (path sender) apart

    -- the two go on, first the receiver; two threads, so that the sender is where it was
    met : sender ≢ receiver → (b d : Bind) (v : Held) (v' : Value) → Means gm.cells v v'
        → (path' : ℕ → Path) × Stands (changed (changed m receiver (go_on m.memory r d (Keeps v))) sender (go_on (changed m receiver (go_on m.memory r d (Keeps v))).memory s b (Keeps Held.Unit)))
        (lengthen (path sender) (proceed sending b unit) ∷ lengthen (path receiver) (proceed receiving d v') ∷ pool) path'
    met differ b d v v' means =
        let m₁ : Machine = changed m receiver (go_on m.memory r d (Keeps v)) in
        let pool₁ : Pool = lengthen (path receiver) (proceed receiving d v') ∷ pool in
        let path₁ : ℕ → Path = put ℕ_discrete path receiver (path receiver ▷ next d.name) in
        let h₁ : Stands m₁ pool₁ path₁ = goes_on m pool path h receiver r at' p d v v' means in
        let at₁ : thread_at m₁.threads sender ≡ some s = still_there m receiver sender s (go_on m.memory r d (Keeps v)) (on_born m.memory r d (Keeps v)) differ at in
        let there : path₁ sender ≡ path sender = put_other ℕ_discrete path receiver (path receiver ▷ next d.name) sender differ in
        let same : state_in h₁.marks.cells h₁.marks.frames s ≡ sending =
        same_some (sym (here m₁ pool₁ path₁ h₁ sender s at₁) ∙ ap (leaf_state pool₁) there ∙ untouched differ (proceed receiving d v') ∙ here m pool path h sender s at) in
        let last = goes_on m₁ pool₁ path₁ h₁ sender s at₁ p b Held.Unit unit (unit_means h₁.marks.cells) in
        let path₂ : ℕ → Path = put ℕ_discrete path₁ sender (path₁ sender ▷ next b.name) in
        let m₂ : Machine = changed m₁ sender (go_on m₁.memory s b (Keeps Held.Unit)) in (
          path₂,
          subst (λ x. Stands m₂ (lengthen x (proceed sending b unit) ∷ pool₁) path₂) there
              (subst (λ st. Stands m₂ (lengthen (path₁ sender) (proceed st b unit) ∷ pool₁) path₂) same last),
        )

    -- a meeting stands for the step of the two paths
    pub meet_like : Like (λ m' ts. (path' : ℕ → Path) × Stands m' (ts ++ pool) path') (flat p m (together sender receiver)) (added p pool (meet (path sender) (path receiver)))
    unfolding flat added ◌>>=◌ state_in
    meet_like =
        let o : Like (λ a b. SameChannel gm.cells a.0 b.0 × Means gm.cells a.1 b.1) (offers p m.memory s) (offer p sending) = subst (λ x. Like (λ a b. SameChannel gm.cells a.0 b.0 × Means gm.cells a.1 b.1) (offers p x s) (offer p sending)) (sym h.same) (offer_like p gm h.meant s) in
        let a : Like (SameChannel gm.cells) (awaits p m.memory r) (receives_on p receiving) = subst (λ x. Like (SameChannel gm.cells) (awaits p x r) (receives_on p receiving)) (sym h.same) (await_like p gm h.meant r) in
        rw (at, at', here m pool path h sender s at, here m pool path h receiver r at')
        (like_same (bind_at p s.row) λ b _.
        like_same (bind_at p r.row) λ d _.
        like_bind (like_found o) λ (i, v) (i', v') ((same, means), _, offered).
        like_bind (like_found a) λ j j' (same', _, awaited).
        like_bind (like_test (eqb i j) (same_instance i' j') (λ t. same_some (sym same ∙ ap (own_at gm.cells) (eqb-true i j t) ∙ same')) (λ q. eq-eqb i j (h.apart i j i' same (same' ∙ ap some (sym q))))) λ _ q _.
        both (met (λ z. one_side p sending i' j' v' offered (ap (λ u. receives_on p (state_in gm.cells gm.frames u)) (same_some (sym at ∙ ap (thread_at m.threads) z ∙ at')) ∙ awaited)) b d v v' means))
