-- The loop's invariant: checking the claims from row c on, from the next line, finds what checking all finds.
-- There are at most as many lines as rows, so the next line is a usize.
use Prim.Native.Nat.{◌≤◌, ◌+◌}
use mathlib.Core.Path.{◌≡◌}
use lib.ListN.{take, drop}
use Rattle.format.specs.Limits.{row_limit}
use Rattle.calls.specs.Layout.{decode_claims, claims_start}
use Rattle.store.proofs.Claims.{claims_on}
use Rattle.allowed_lines.specs.Lines.{claim_marked, checked}
use Rattle.allowed_lines.proofs.check_claims.Given as goal

abbrev pub invariant-loop-c : goal.invariant-loop-c
invariant-loop-c l =
    (l.next ≤ l.line + l.c)
    × (checked (claim_marked l.keys) l.next (claims_on l.store claims_start l.c) ≡ checked (claim_marked l.keys) l.line (decode_claims 0 (take row_limit (drop claims_start l.store))))
