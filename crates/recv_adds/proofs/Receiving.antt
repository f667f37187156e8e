-- What is gathered of receives, added to a sync's own set, is what the rule of a sync asks.
use Prim.Native.Nat.{ℕ, ◌≤◌}
use mathlib.Core.Bool.{Bool, So}
use Rattle.program.specs.Flow.{Table, lies}
use Rattle.format.specs.Limits.{row_limit}
use Rattle.format.specs.Text.{Bytes}
use Rattle.store.specs.Rows.{store_program}
use Rattle.tables.specs.Tables.{store_flow, store_comm}
use Rattle.sets.specs.Sets.{set_of}
use Rattle.set_adds.specs.Adding.{Inside, Adds}
use Rattle.set_adds.proofs.Adding.{adds_told}
use Rattle.received.specs.Received.{Gathered, hears, gives, recvs_rule}
use Rattle.received.proofs.Receiving.{told, back}

module _ (rows n e : ℕ) (s channels values : Bytes) (few : rows ≤ row_limit) (h : Gathered rows (hears (store_program rows s) (store_flow s) e) channels)
    (g : Gathered rows (gives (store_program rows s) (store_comm s) (set_of channels)) values) where
  told_inside : (flow comm : Table) → So (recvs_rule (store_program rows s) n e flow comm) → Inside flow comm s → So (lies (store_program rows s) (set_of values) (flow n))
  unfolding Inside
  told_inside flow comm t (in-flow, in-comm) = told rows n e s channels values few h g flow comm in-flow in-comm t

  pub received : {s' : Bytes} {more : Bool} → Adds (λ flow comm. lies (store_program rows s) (set_of values) (flow n)) s s' more → Adds (recvs_rule (store_program rows s) n e) s s' more
  received a = adds_told told_inside (back rows n e s channels values few h g) a
