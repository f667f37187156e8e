-- What a thread at a sync row waits for: the place is one of its channel's, and a send and a receive that meet keep the tables.
use Prim.Native.Nat.{ℕ, ◌<◌}
use mathlib.Core.Bool.{So}
use Rattle.std.specs.Prelude.{Some as some}
use mathlib.Core.Path.{◌≡◌, refl}
use lib.ListN.{length}
use Rattle.program.specs.declared.Bind.{Bind}
use Rattle.program.specs.declared.Form.TheVariants.{Sync}
use Rattle.program.specs.Flow.{u, row, Table, lies, keeps_form, send_rule, recv_rule, keeps_all}
use Rattle.program.specs.Maybe.{◌>>=◌}
use Rattle.program.specs.Program.{Program, bind_at, chan_at, sync_at, send_at, recv_at}
use Rattle.program.specs.Run.{Instance, chan_name, Value, Env, lookup, State, event, sends_on, message, offer, receives_on}
use Rattle.program.specs.Walk.{plain, send_place, receive_place}
use Rattle.program.proofs.Maybe.{Found, found, found_self, found_both, found_bind, found_map, found_at, found_when, has_intro}
use Rattle.program.proofs.Sound.Edges.{form_at_lem}
use Rattle.program.proofs.Sound.Forms.{sync_form}
use Rattle.program.proofs.Sound.Shape.{chan_unique}
use Rattle.program.proofs.Sound.States.{rule_of, Covers}
use Rattle.program.proofs.Sound.Values.{In, Covered, CoversEnv, CoversValue, each_elim, each_chan_elim, lookup_covered, closure_covered, channel_covered, lies_elim}
use Rattle.program.proofs.Test.{and_left, and_right, and_intro, any_intro}
use Rattle.program.proofs.WellFormed.{WellFormed}

module _ (p : Program) (flow : Table) (st : State) (c : Covers p flow st) where
  -- the event's row is in E's set
  record Event (k : ℕ × Env) : Type 0 where
    name : ℕ
    sync : sync_at p st.row ≡ some name
    among : So (flow name (row k.0))
    bound : k.0 < length p
    env : CoversEnv p flow k.1

  event_at : Found Event (event p st)
  unfolding event
  event_at =
      found_bind (found_self (sync_at p st.row)) λ e q.
      found_map (λ k (m, l, h). record { name = e; sync = q; among = m; bound = l; env = h }) (closure_covered p flow st.env e c.env)

module _ (p : Program) (well : WellFormed p) (flow : Table) (st : State) (c : Covers p flow st) where
  -- a thread at a send (receive) on an instance is at a send (receive) place of its chan row
  pub at_send_place : (k : ℕ) → Found (λ i. chan_at p k ≡ some (chan_name i) → So (send_place p flow k st.row)) (sends_on p st)
  unfolding sends_on send_place
  at_send_place k =
      found_bind (event_at p flow st c) λ (r, env) e.
      found_bind (found_self (send_at p r)) λ (x, m) q.
      found_map (λ i (d, at, l) k-at. has_intro _ e.sync (any_intro _ r e.bound (and_intro e.among (has_intro _ q (rw (chan_unique p well (chan_name i) k d k-at at) l)))))
      (channel_covered p flow env x e.env)

  pub at_receive_place : (k : ℕ) → Found (λ i. chan_at p k ≡ some (chan_name i) → So (receive_place p flow k st.row)) (receives_on p st)
  unfolding receives_on receive_place
  at_receive_place k =
      found_bind (event_at p flow st c) λ (r, env) e.
      found_bind (found_self (recv_at p r)) λ x q.
      found_map (λ i (d, at, l) k-at. has_intro _ e.sync (any_intro _ r e.bound (and_intro e.among (has_intro _ q (rw (chan_unique p well (chan_name i) k d k-at at) l)))))
      (channel_covered p flow env x e.env)

module _ (p : Program) (flow comm : Table) (b : Bind) where
  -- of a sender: its name takes unit, and the message is in the set of the channel row
  pub record Offers (x : Instance × Value) : Type 0 where
    pub onward : So (plain b.form)
    pub takes_unit : So (flow b.name u)
    pub chan_row : ℕ
    pub chan : chan_at p chan_row ≡ some (chan_name x.0)
    pub message : In p (comm chan_row) x.1
    pub value : CoversValue p flow x.1

  -- of a receiver: its name takes what is in the set of the channel row
  pub record Accepts (i : Instance) : Type 0 where
    pub onward : So (plain b.form)
    pub chan_row : ℕ
    pub chan : chan_at p chan_row ≡ some (chan_name i)
    pub takes : So (lies p (comm chan_row) (flow b.name))

module _ (p : Program) (flow comm : Table) (keeps : So (keeps_all p flow comm)) (st : State) (c : Covers p flow st) (b : Bind) (at : bind_at p st.row ≡ some b) where
  -- the sync's form
  sync_at_lem : Found (λ e. b.form ≡ Sync e) (sync_at p st.row)
  unfolding sync_at ◌>>=◌
  sync_at_lem = rw (form_at_lem p st.row b b.form at refl) (sync_form b.form)

  -- what the flow rule asks of the event's row
  record Ruled (k : ℕ × Env) : Type 0 where
    sync : (e : ℕ) × (b.form ≡ Sync e)
    sends : So (send_rule p flow comm st.row b.name k.0)
    receives : So (recv_rule p flow comm st.row b.name k.0)
    env : CoversEnv p flow k.1

  event_rule : Found Ruled (event p st)
  unfolding keeps_form
  event_rule = found_map ruled (event_at p flow st c)
    where
      ruled : (k : ℕ × Env) → Event p flow st c k → Ruled k
      ruled k e =
          let q : b.form ≡ Sync e.name = found_at e.sync sync_at_lem in
          let both = each_elim p (flow e.name) _ (rw q at (rule_of p flow comm keeps st.row b at)) k.0 e.bound e.among in
          record { sync = (e.name, q); sends = search and_left; receives = search and_right; env = e.env }

  -- a sync steps to its rest
  sync_plain : (e : ℕ) → b.form ≡ Sync e → So (plain b.form)
  sync_plain e q = rw q

  -- the send behind an instance that is sent on: its row and environment, its C and M, and a row of C's set that the instance is of
  record Sending (i : Instance) : Type 0 where
    send_row : ℕ
    env : Env
    onto : ℕ
    what : ℕ
    here : event p st ≡ some (send_row, env)
    send : send_at p send_row ≡ some (onto, what)
    ruled : Ruled (send_row, env)
    chan_row : ℕ
    chan : chan_at p chan_row ≡ some (chan_name i)
    among : So (flow onto (row chan_row))

  sending : Found Sending (sends_on p st)
  unfolding sends_on
  sending =
      found_bind (found_both (found_self (event p st)) event_rule) λ (r, env) (h, e).
      found_bind (found_self (send_at p r)) λ (x, m) q.
      found_map (λ i (k, chan, l). record {
        send_row = r;
        env = env;
        onto = x;
        what = m;
        here = h;
        send = q;
        ruled = e;
        chan_row = k;
        chan = chan;
        among = l;
      })
      (channel_covered p flow env x e.env)

  message_is : {i : Instance} (s : Sending i) → message p st ≡ lookup s.env s.what
  unfolding message ◌>>=◌
  message_is s = rw (s.here, s.send) refl

  pub offers : Found (Offers p flow comm b) (offer p st)
  unfolding offer send_rule
  offers =
      found_bind sending λ i s.
      found_bind (rw (← message_is s) at (lookup_covered p flow s.env s.what s.ruled.env)) λ v (h, value).
      let rule = found_at s.send (found_when _ (send_at p s.send_row) s.ruled.sends) in
      let both = each_chan_elim p (flow s.onto) _ rule (chan_name i) s.chan_row s.chan s.among in
      found (record {
        onward = sync_plain s.ruled.sync.0 s.ruled.sync.1;
        takes_unit = search and_left;
        chan_row = s.chan_row;
        chan = s.chan;
        message = lies_elim p flow (flow s.what) (comm s.chan_row) (search and_right) v value h;
        value = value;
      })

  pub accepts : Found (Accepts p flow comm b) (receives_on p st)
  unfolding receives_on recv_rule
  accepts =
      found_bind event_rule λ (r, env) e.
      found_bind (found_when _ (recv_at p r) e.receives) λ x rule.
      found_map (λ i (k, chan, l). record {
        onward = sync_plain e.sync.0 e.sync.1;
        chan_row = k;
        chan = chan;
        takes = each_chan_elim p (flow x) _ rule (chan_name i) k chan l;
      })
      (channel_covered p flow env x e.env)

-- on one instance, the receiver's name takes the message
pub taken : (p : Program) → WellFormed p → (flow comm : Table) (b d : Bind) (i j : Instance) (v : Value)
    → Offers p flow comm b (i, v) → Accepts p flow comm d j → i ≡ j → Covered p flow d.name v
taken p well flow comm b d i j v o a e =
    let k : o.chan_row ≡ a.chan_row = chan_unique p well (chan_name j) o.chan_row a.chan_row (rw e at o.chan) a.chan in
    (lies_elim p flow (comm a.chan_row) (flow d.name) a.takes v o.value (rw k at o.message), o.value)
