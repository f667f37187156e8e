-- What a sync asks, its send rows and its recv rows apart.
use Prim.Native.Nat.{ℕ, ◌≤◌}
use mathlib.Core.Bool.{Bool, true, false, ◌&&◌}
use mathlib.Core.Path.{◌≡◌, ◌∙◌}
use lib.ListN.{length}
use Rattle.program.proofs.Test.{all_same}
use Rattle.program.specs.Program.{Program}
use Rattle.program.specs.Flow.{u, row, Set, for_each}
use Rattle.format.specs.Limits.{row_limit}
use Rattle.format.specs.Text.{Bytes}
use Rattle.store.specs.Rows.{store_program}
use Rattle.tables.specs.Tables.{store_flow, store_comm}
use Rattle.sets.specs.Sets.{set_of, lies_below}
use Rattle.sets.proofs.Tests.{implies_and, all_and}
use Rattle.sets.proofs.Members.{lies_at}
use Rattle.received.specs.Received.{Gathered, hears, gives, recvs_rule}
use Rattle.received.proofs.Receiving.{received}
use Rattle.channel_asks.specs.Channels.{send_test}
use Rattle.sync_rule.specs.Rules.{recv_test, sync_test}

each_and : (p : Program) (c : Set) (f g : ℕ → Bool) → for_each p c (λ r. f r && g r) ≡ for_each p c f && for_each p c g
unfolding for_each
each_and p c f g = all_same (length p) _ _ (λ i l. implies_and (c (row i)) (f i) (g i)) ∙ all_and (length p) _ _

module _ (n : ℕ) (s : Bytes) where
  module _ (e : ℕ) (t : Set) {sends given : Bool} (i : given ≡ t u)
      (h : sends ≡ for_each (store_program n s) (store_flow s e) (send_test (store_program n s) (store_flow s) (store_comm s) given)) where
    sync_apart : sync_test (store_program n s) (store_flow s) (store_comm s) t e ≡ sends && for_each (store_program n s) (store_flow s e) (recv_test (store_program n s) (store_flow s) (store_comm s) t)
    unfolding sync_test
    sync_apart = rw (h, i) (each_and (store_program n s) (store_flow s e) _ _)

    pub sync_fails : sends ≡ false → false ≡ sync_test (store_program n s) (store_flow s) (store_comm s) t e
    sync_fails f = rw (sync_apart, f)

    pub sync_recvs : {recvs : Bool} → sends ≡ true → recvs ≡ for_each (store_program n s) (store_flow s e) (recv_test (store_program n s) (store_flow s) (store_comm s) t)
        → recvs ≡ sync_test (store_program n s) (store_flow s) (store_comm s) t e
    sync_recvs f q = rw (sync_apart, f) q

-- all that a sync may receive lies in its set
pub all_received : (rows n e : ℕ) (s : Bytes) {channels values : Bytes} {b : Bool} → rows ≤ row_limit → Gathered rows (hears (store_program rows s) (store_flow s) e) channels
    → Gathered rows (gives (store_program rows s) (store_comm s) (set_of channels)) values → b ≡ lies_below rows (set_of values) (store_flow s n)
    → b ≡ for_each (store_program rows s) (store_flow s e) (recv_test (store_program rows s) (store_flow s) (store_comm s) (store_flow s n))
unfolding recv_test recvs_rule
all_received rows n e s {channels} {values} few h g q = q ∙ lies_at rows s (set_of values) (store_flow s n) ∙ received rows n e s channels values few h g
