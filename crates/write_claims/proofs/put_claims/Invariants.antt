-- The loop's invariant: of the text, the lines of the claims from row c on are left.
use lib.ListN.{drop}
use Rattle.calls.specs.Layout.{decode_claims}
use Rattle.write_claims.proofs.Claims.{claims_text}
use Rattle.write_bytes.proofs.Progress.{Progress}
use Rattle.write_claims.proofs.put_claims.Given as goal

abbrev pub invariant-loop-c : goal.invariant-loop-c
invariant-loop-c l =
    Progress l.initial.out l.at (claims_text (decode_claims 0 l.codes)) l.out l.next (claims_text (decode_claims l.c (drop l.c l.codes)))
