-- What is gathered of receives is what the rule of a sync asks of them.
use Prim.Native.Nat.{ℕ, ◌+◌, ◌<◌, ◌≤◌}
use native.Mathlib.Omega.{arith}
use native.Mathlib.Numerals.{add-one}
use mathlib.Core.Bool.{true, false, ◌&&◌, So, and-false}
use mathlib.Core.Logic.Iff
use mathlib.Core.Logic.{◌↔◌}
use Rattle.std.specs.Prelude.{None as none, Some as some}
use mathlib.Core.Path.{◌≡◌, refl, ◌∙◌}
use lib.Dec.{ltb}
use lib.ListN.{length}
use Rattle.program.specs.declared.Form.{Form}
use Rattle.program.specs.declared.Form.TheVariants.{Chan, Recv, Sync}
use Rattle.program.specs.Maybe.{has}
use Rattle.program.specs.Program.{Program, row_at, recv_of, is_chan, chan_at, chan_row, recv_at}
use Rattle.program.specs.Flow.{Abstract, row, Set, Table, lies, for_each, for_each_chan, send_rule, recv_rule, keeps_form}
use Rattle.program.specs.FlowRule.{ForEach, ForEachChan, Lies}
use Rattle.program.proofs.FlowRule.{each_iff, lies_iff, when_iff}
use Rattle.program.proofs.Maybe.{has_elim, has_intro}
use Rattle.program.proofs.Test.{and_left, and_right, and_intro, any_elim, any_intro, all_same, same_tests}
use Rattle.format.specs.Limits.{row_limit}
use Rattle.format.specs.Text.{Bytes, byte_at}
use Rattle.format.specs.Document.{member}
use Rattle.calls.specs.Layout.{member_limit}
use Rattle.store.specs.Rows.{store_program}
use Rattle.store.proofs.Laws.{program_length}
use Rattle.tables.specs.Tables.{store_flow, store_comm}
use Rattle.forms.specs.Forms.{form_in}
use Rattle.forms.proofs.Forms.{recv_at_lem, chan_row_lem}
use Rattle.sets.specs.Sets.{set_of}
use Rattle.sets.proofs.Tests.{implies_and, all_and}
use Rattle.sets.proofs.Members.{lies_at, lies_below_iff, set_full}
use Rattle.received.specs.Received.{Gathered, hears, gives, recvs_rule}

-- ---- one row

module _ (p : Program) (table : Table) (k : ℕ) {f : Form} (e : f ≡ form_in (row_at p k)) where
  pub hears_none : (n : ℕ) → recv_of f ≡ none → (a : Abstract) → hears p table n k a ≡ false
  unfolding hears has
  hears_none n q a = rw (recv_at_lem p k e, q) (and-false (table n (row k)))

  pub hears_recv : (n : ℕ) {c : ℕ} → table n (row k) ≡ true → f ≡ Recv c → (a : Abstract) → hears p table n k a ≡ table c a
  unfolding hears has
  hears_recv n t q a = rw (t, recv_at_lem p k e, q)

  pub gives_none : (t : Set) → is_chan f ≡ false → (a : Abstract) → gives p table t k a ≡ false
  unfolding gives
  gives_none t q a = rw (chan_row_lem p k e, q) (and-false (t (row k)))

  pub gives_chan : (t : Set) → t (row k) ≡ true → f ≡ Chan → (a : Abstract) → gives p table t k a ≡ table k a
  unfolding gives
  gives_chan t h q a = rw (h, chan_row_lem p k e, q)

module _ (p : Program) (table : Table) (k : ℕ) where
  pub hears_other : (n : ℕ) → table n (row k) ≡ false → (a : Abstract) → hears p table n k a ≡ false
  unfolding hears
  hears_other n t a = rw t

  pub gives_other : (t : Set) → t (row k) ≡ false → (a : Abstract) → gives p table t k a ≡ false
  unfolding gives
  gives_other t h a = rw h

-- whether row k is in a set of bytes
pub among : (s : Bytes) (k : ℕ) → member_limit ≤ length s → set_of s (row k) ≡ ltb 0 (byte_at s (k + 1))
unfolding member
among s k l = rw (set_full s l, add-one)

-- ---- the rule of a sync: its sends, and its receives

pub sync_parts : (p : Program) (flow comm : Table) (r n e : ℕ) → keeps_form p flow comm r n (Sync e) ≡ for_each p (flow e) (send_rule p flow comm r n) && recvs_rule p n e flow comm
unfolding keeps_form recv_rule recvs_rule for_each
sync_parts p flow comm r n e = all_same (length p) _ _ (λ i l. implies_and (flow e (row i)) _ _) ∙ all_and (length p) _ _

-- ---- the receives' part as a proposition

recvs_iff : (p : Program) (n e : ℕ) (flow comm : Table)
    → So (recvs_rule p n e flow comm) ↔ ForEach p (flow e) (λ s. (c : ℕ) → recv_at p s ≡ some c → ForEachChan p (flow c) λ k. Lies p (comm k) (flow n))
unfolding recvs_rule for_each_chan
recvs_iff p n e flow comm = simp (each_iff p, when_iff, lies_iff p) Iff.rfl

lies_members : (rows : ℕ) (s : Bytes) (t v : Set) → So (lies (store_program rows s) t v) ↔ ((a : Abstract) → member a < rows + 1 → So (t a) → So (v a))
lies_members rows s t v = rw (← (lies_at rows s t v)) (lies_below_iff rows t v)

-- ---- what is gathered

module _ (rows n e : ℕ) (s channels values : Bytes) (few : rows ≤ row_limit) (h : Gathered rows (hears (store_program rows s) (store_flow s) e) channels)
    (g : Gathered rows (gives (store_program rows s) (store_comm s) (set_of channels)) values) where
  -- a member comes from a channel of a receive
  record Came (a : Abstract) : Type 0 where
    receive : ℕ
    channel : ℕ
    name : ℕ
    bound : ℕ
    receive_low : receive < rows
    in_event : So (store_flow s e (row receive))
    is_recv : recv_at (store_program rows s) receive ≡ some name
    channel_low : channel < rows
    in_name : So (store_flow s name (row channel))
    is_chan_lem : chan_at (store_program rows s) channel ≡ some bound
    is_held : So (store_comm s channel a)

  came : (a : Abstract) → member a < rows + 1 → So (set_of values a) → Came a
  unfolding hears gives chan_row member
  came a l t =
      let p = store_program rows s in
      let (k, k-low, x) = any_elim rows _ (rw (g.members a (omega arith)) at t) in
      let listed : So (set_of channels (row k)) = and_left (set_of channels (row k)) _ x in
      let (m, is, o) = has_elim (λ n. true) (chan_at p k) (and_left _ _ (and_right (set_of channels (row k)) _ x)) in
      let (r, r-low, y) = any_elim rows _ (rw (h.members (row k) (omega arith)) at listed) in
      let (c, recv, z) = has_elim (λ c. store_flow s c (row k)) (recv_at p r) (and_right (store_flow s e (row r)) _ y) in
      record {
        receive = r;
        channel = k;
        name = c;
        bound = m;
        receive_low = r-low;
        in_event = and_left _ _ y;
        is_recv = recv;
        channel_low = k-low;
        in_name = z;
        is_chan_lem = is;
        is_held = and_right (chan_row p k) _ (and_right (set_of channels (row k)) _ x);
      }

  comes : (a : Abstract) → member a < rows + 1 → Came a → So (set_of values a)
  unfolding hears gives chan_row member
  comes a l w =
      let p = store_program rows s in
      let x : So (set_of channels (row w.channel)) = rw (h.members (row w.channel) (omega arith))
      (any_intro _ w.receive w.receive_low (and_intro w.in_event (has_intro (λ c. store_flow s c (row w.channel)) w.is_recv w.in_name))) in
      rw (g.members a (omega arith)) (any_intro _ w.channel w.channel_low (and_intro x (and_intro (has_intro (λ n. true) w.is_chan_lem refl) w.is_held)))

  -- in tables that hold those of the store
  pub told : (flow comm : Table) → ((n : ℕ) (a : Abstract) → So (store_flow s n a) → So (flow n a)) → ((c : ℕ) (a : Abstract) → So (store_comm s c a) → So (comm c a))
      → So (recvs_rule (store_program rows s) n e flow comm) → So (lies (store_program rows s) (set_of values) (flow n))
  told flow comm in-flow in-comm t =
      (lies_members rows s (set_of values) (flow n)).1 λ a l v.
      let w = came a l v in
      let p = store_program rows s in
      let lies-here = (recvs_iff p n e flow comm).0 t w.receive (rw (program_length rows s) w.receive_low) (in-flow e _ w.in_event) w.name w.is_recv
      w.channel (rw (program_length rows s) w.channel_low) (in-flow _ _ w.in_name) w.bound w.is_chan_lem in
      (lies_members rows s (comm w.channel) (flow n)).0 ((lies_iff p _ _).1 lies-here) a l (in-comm _ a w.is_held)

  pub back : So (lies (store_program rows s) (set_of values) (store_flow s n)) → So (recvs_rule (store_program rows s) n e (store_flow s) (store_comm s))
  back t =
      let p = store_program rows s in
      (recvs_iff p n e (store_flow s) (store_comm s)).1 λ r r-low in_event c recv k k-low in_name m is.
      (lies_iff p _ _).0 ((lies_members rows s (store_comm s k) (store_flow s n)).1 λ a l v.
      (lies_members rows s (set_of values) (store_flow s n)).0 t a l (comes a l (record {
        receive = r;
        channel = k;
        name = c;
        bound = m;
        receive_low = rw (program_length rows s) at r-low;
        in_event = in_event;
        is_recv = recv;
        channel_low = rw (program_length rows s) at k-low;
        in_name = in_name;
        is_chan_lem = is;
        is_held = v;
      })))

  -- in the store's own tables
  pub received : lies (store_program rows s) (set_of values) (store_flow s n) ≡ recvs_rule (store_program rows s) n e (store_flow s) (store_comm s)
  received = same_tests _ _ back (told (store_flow s) (store_comm s) (λ k a h. h) (λ k a h. h))
