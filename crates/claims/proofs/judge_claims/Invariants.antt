-- The claims from row c on, behind those that held, decide what all decide.
use Prim.Native.Nat.{◌≤◌}
use mathlib.Core.Path.{◌≡◌}
use Rattle.calls.specs.Layout.{claims_start}
use Rattle.store.specs.Rows.{store_program}
use Rattle.store.proofs.Claims.{claims_on}
use Rattle.tables.specs.Tables.{store_flow}
use Rattle.claims.specs.Claims.{claim_in, store_claims, claims_held}
use Rattle.claims.proofs.judge_claims.Given as goal

abbrev pub invariant-loop-c : goal.invariant-loop-c
invariant-loop-c l =
    let ok = claim_in (store_program l.rows l.store) (store_flow l.store) in
    (l.held ≤ l.c) × (claims_held ok l.held (claims_on l.store claims_start l.c) ≡ claims_held ok 0 (store_claims l.store))
